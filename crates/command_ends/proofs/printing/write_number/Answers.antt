use Rattle.std.proofs.Common.{◌≡◌, rules}
use Rattle.std.proofs.lemmas.Result.{err_from_is_err_and}
use Rattle.std.specs.Fmt.{decimal}
use Rattle.grpc_frame.proofs.Outgoing.{then_flushed}
use Rattle.command_ends.proofs.printing.write_number.Goals as goal

pub returns-in_err-send_parts-clause-bytes : goal.returns-in_err-send_parts-clause-bytes
returns-in_err-send_parts-clause-bytes g c =
    let is : c.as_bytes.result.now ≡ decimal c.args.number = search rules in
    let p = err_from_is_err_and c.from_residual.result c.from_residual.ensures.1 in
    rw (p.1, p.2) (rw is at c.in_err-send_parts.ensures)

pub returns-clause-bytes : goal.returns-clause-bytes
returns-clause-bytes g c =
    let is : c.as_bytes.result.now ≡ decimal c.args.number = search rules in
    then_flushed _ _ _ _ _ (rw is at c.in_ok-send_parts.ensures) c.flush.ensures.bytes
