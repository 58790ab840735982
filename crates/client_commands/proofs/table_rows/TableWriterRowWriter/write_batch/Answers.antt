use Rattle.std.proofs.Common.{◌≡◌, [], ◌∷◌, ◌++◌, ap, refl, sym, subst}
use Rattle.std.proofs.lemmas.Result.{err_from_is_err_and}
use Rattle.arrays.specs.Batch.{rows_of}
use Rattle.arrays.specs.TypedLayouts.{AreOfTypes}
use Rattle.command_ends.specs.Printing.{said_of}
use Rattle.client_commands.specs.inside.Writers.{WriterAt}
use Rattle.client_commands.proofs.Writers.{batch_held, one_held, table_breaks}
use Rattle.client_commands.proofs.table_rows.TableWriterRowWriter.write_batch.Goals as goal

pub invariant_of-self : goal.invariant_of-self
invariant_of-self g c = rw c.in_err-push.ensures.items c.self.invariant

pub invariant_of-self-2 : goal.invariant_of-self-2
invariant_of-self-2 g c =
    let typed = subst (λ (w : WriterAt). AreOfTypes w.schema.fields c.args.batch.columns) (sym c.self.view_is) c.requires.typed in
    one_held c.self.inside.schema c.self.inside.batches.items c.push.new.self.items c.args.batch c.in_ok-push.ensures.items c.self.invariant typed

pub returns-in_err-push-clause-bytes : goal.returns-in_err-push-clause-bytes
returns-in_err-push-clause-bytes g c =
    let p = err_from_is_err_and c.from_residual.result c.from_residual.ensures.1 in
    let out = said_of g.W.Output c.args._output.now in
    rw (p.1, p.2) (λ schema rows start taken. table_breaks schema (rows ++ rows_of c.args.batch) rows start c.args.self.now out out refl taken)

pub returns-clause-bytes : goal.returns-clause-bytes
returns-clause-bytes g c =
    let out = said_of g.W.Output c.args._output.now in
    let after : WriterAt = record { schema = c.self.inside.schema; waiting = []; batches = c.push.new.self.items } in
    let more = subst (λ (w : WriterAt). c.push.new.self.items ≡ w.batches ++ c.args.batch ∷ []) c.self.view_is c.in_ok-push.ensures.items in
    batch_held c.args.batch c.args.self.now after out out refl (ap (λ (w : WriterAt). w.schema) c.self.view_is) more
