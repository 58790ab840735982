use Rattle.std.proofs.Common.{◌≡◌, rules}
use Rattle.std.proofs.lemmas.Result.{err_from_is_err_and}
use Rattle.command_ends.proofs.Saying.{head_begun, text_begun, line_said}
use Rattle.scan_base.specs.Fault.{fault_text}
use Rattle.client_commands.proofs.call_outcome.write_fault.Goals as goal

pub returns-in_err-write-clause-bytes : goal.returns-in_err-write-clause-bytes
returns-in_err-write-clause-bytes g c =
    let p = err_from_is_err_and c.from_residual.result c.from_residual.ensures.1 in
    rw p.1 (head_begun _ _ (fault_text c.args.fault) c.in_err-write.ensures.bytes)

pub returns-in_err-write-2-clause-bytes : goal.returns-in_err-write-2-clause-bytes
returns-in_err-write-2-clause-bytes g c =
    let p = err_from_is_err_and c.from_residual-in_err-write-2.result c.from_residual-in_err-write-2.ensures.1 in
    let is : c.as_bytes.result.now ≡ fault_text c.args.fault = search rules in
    rw p.1 (text_begun _ _ _ (fault_text c.args.fault) c.in_ok-write.ensures.bytes (rw is at c.in_err-write-2.ensures.bytes))

pub returns-clause-bytes : goal.returns-clause-bytes
returns-clause-bytes g c =
    let is : c.as_bytes.result.now ≡ fault_text c.args.fault = search rules in
    line_said _ _ _ _ _ (fault_text c.args.fault) c.in_ok-write.ensures.bytes (rw is at c.in_ok-write-2.ensures.bytes) c.write-3.ensures.bytes
