use Rattle.std.proofs.Common.{[], ℕ, List, sym, subst, ◌∙◌}
use Rattle.std.proofs.lemmas.Result.{err_from_is_err_and}
use Rattle.arrow_types.specs.declared.schema.Schema.{Schema}
use Rattle.row_stream.specs.Stream.{WritesBeginning}
use Rattle.row_stream.specs.Writing.{SoFar}
use Rattle.row_stream.proofs.SoFar.{begun, not_begun}
use Rattle.row_stream.proofs.writer.StreamWriter.begin.Goals as goal

pub returns-in_err-write_frame-clause-bytes : goal.returns-in_err-write_frame-clause-bytes
returns-in_err-write_frame-clause-bytes g c =
    let p = err_from_is_err_and c.from_residual-in_err-write_frame.result c.from_residual-in_err-write_frame.ensures.1 in
    let a = g.W.Output.contents c.args.output.now in
    let b = g.W.Output.contents c.write_frame.new.writer in
    let part = not_begun c.dresser.inside.schema c.in_ok-message.message a b c.new-outbox.result c.new-outbox.ensures c.in_ok-message.ensures.fits c.in_ok-message.ensures.says c.in_err-write_frame.ensures.bytes in
    rw (p.1, p.2, c.in_err-write_frame.ensures.fault) (subst (λ (schema : Schema). WritesBeginning schema [] a b) (c.dresser.view_is ∙ c.in_ok-dresser.ensures) part)

pub returns-clause-bytes : goal.returns-clause-bytes
returns-clause-bytes g c =
    let a = g.W.Output.contents c.args.output.now in
    let b = g.W.Output.contents c.write_frame.new.writer in
    let schema = c.dresser.inside.schema in
    let empty = c.in_ok-write_frame.ensures.empty in
    let so = begun schema c.in_ok-message.message a b c.new-outbox.result c.new-outbox.ensures c.in_ok-message.ensures.fits c.in_ok-message.ensures.says c.in_ok-write_frame.ensures.bytes in
    let waits = subst (λ (waiting : List ℕ). SoFar schema [] a b waiting) (sym empty) so in
    (c.in_ok-dresser.ensures, subst (λ (schema : Schema). SoFar schema [] a b c.write_frame.new.outbox) (c.dresser.view_is ∙ c.in_ok-dresser.ensures) waits, empty)
