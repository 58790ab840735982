use Rattle.std.proofs.Common.{◌≡◌, [], ◌∷◌, rules}
use Rattle.std.proofs.lemmas.Result.{err_from_is_err_and}
use Rattle.grpc_frame.proofs.Growing.{beginning_of_head, content_behind}
use Rattle.command_ends.proofs.ending.write_line.Goals as goal

pub returns-in_err-write-clause-bytes : goal.returns-in_err-write-clause-bytes
returns-in_err-write-clause-bytes g c =
    let p = err_from_is_err_and c.from_residual.result c.from_residual.ensures.1 in
    let is : c.as_bytes.result.now ≡ c.args.text.now = search rules in
    rw p.1 (beginning_of_head _ _ c.args.text.now (10 ∷ []) (rw is at c.in_err-write.ensures.bytes))

pub returns-clause-bytes : goal.returns-clause-bytes
returns-clause-bytes g c =
    let is : c.as_bytes.result.now ≡ c.args.text.now = search rules in
    content_behind _ _ _ _ c.args.text.now (10 ∷ []) (rw is at c.in_ok-write.ensures.bytes) c.write-2.ensures.bytes
