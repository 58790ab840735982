use Rattle.std.proofs.Common.{◌∙◌, ℕ, List, sym, ap, subst}
use Rattle.arrays.specs.Column.{ColumnAt}
use Rattle.arrays.specs.Batch.{AreLong, BatchAt, rows_of}
use Rattle.dictionary_answers.proofs.Answered.{answered_long, same_rows}
use Rattle.dictionary_answers.proofs.batches.code_batch.Goals as goal

pub new-batch-requires : goal.new-batch-requires
new-batch-requires c =
    let long : AreLong c.rows.result c.columns.result.now = subst (λ (n : ℕ). AreLong n c.columns.result.now) (sym c.rows.ensures) c.columns.ensures.long in
    answered_long c.as_slice-fields.result.now c.columns.result.now c.in-Ok.columns.items c.rows.result c.in-Ok.ensures.columns long

pub returns-in-Ok-clause-rows : goal.returns-in-Ok-clause-rows
returns-in-Ok-clause-rows c =
    let long : AreLong c.rows.result c.columns.result.now = subst (λ (n : ℕ). AreLong n c.columns.result.now) (sym c.rows.ensures) c.columns.ensures.long in
    let of : (columns : List ColumnAt) (rows : ℕ) → BatchAt = λ columns rows. record { columns = columns; rows = rows } in
    ap rows_of c.new-batch.ensures
    ∙ same_rows c.as_slice-fields.result.now c.columns.result.now c.in-Ok.columns.items c.rows.result c.in-Ok.ensures.columns long
    ∙ ap (λ (n : ℕ). rows_of (of c.columns.result.now n)) c.rows.ensures
    ∙ ap (λ (xs : List ColumnAt). rows_of (of xs c.args.batch.now.rows)) c.columns.ensures.columns
