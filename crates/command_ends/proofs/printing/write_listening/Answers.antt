use Rattle.std.proofs.Common.{◌≡◌, ◌++◌, codes, rules}
use Rattle.std.proofs.lemmas.Result.{err_from_is_err_and}
use Rattle.std.specs.Fmt.{decimal}
use Rattle.grpc_frame.proofs.Outgoing.{head_broken, sends_then}
use Rattle.command_ends.proofs.printing.write_listening.Goals as goal

pub returns-in_err-send_part-clause-bytes : goal.returns-in_err-send_part-clause-bytes
returns-in_err-send_part-clause-bytes g c =
    let p = err_from_is_err_and c.from_residual.result c.from_residual.ensures.1 in
    let failed = c.in_err-send_part.ensures in
    rw (p.1, p.2) (failed.0, head_broken _ _ (codes "listening 127.0.0.1:") (decimal c.args.port ++ codes "\n") failed.1)

pub returns-clause-bytes : goal.returns-clause-bytes
returns-clause-bytes g c =
    let is : c.from.result ≡ c.args.port = search rules in
    sends_then _ _ _ _ (codes "listening 127.0.0.1:") (decimal c.args.port ++ codes "\n") c.in_ok-send_part.ensures (rw is at c.write_number.ensures.bytes)
