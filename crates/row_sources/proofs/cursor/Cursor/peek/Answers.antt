use Rattle.std.proofs.Common.{◌≡◌, ◌≤◌, ◌-◌, ◌+◌, ℕ, length, min, refl, ap, ◌∙◌, arith}
use Rattle.scan_base.specs.Limits.{most_rows}
use Rattle.table_versions.specs.StoredTables.{table_of}
use Rattle.row_sources.proofs.Shown.{of_types}
use Rattle.row_sources.proofs.Stepping.{is_part}
use Rattle.row_sources.proofs.cursor.Cursor.peek.Goals as goal

pub returns-clause-part : goal.returns-clause-part
returns-clause-part c =
    let few : length (table_of c.args.table.now).rows ≤ most_rows = omega (arith, c.rows-most.ensures.rows, c.rows-most.ensures.kept.few) in
    let last : c.min-to.result ≡ min (min c.batch-batch.result.now.rows (c.args.self.now.to - c.args.self.now.start)) (c.args.self.now.at - c.args.self.now.start + c.args.self.now.most) =
    c.min-to.ensures ∙ ap (λ (n : ℕ). min n (c.args.self.now.at - c.args.self.now.start + c.args.self.now.most))
    (c.min.ensures ∙ ap (λ (n : ℕ). min n (c.args.self.now.to - c.args.self.now.start)) c.rows.ensures) in
    is_part c.args.table.now c.args.self.now c.requires.placed c.requires.more c.batches_are_rows.ensures c.batch-batch.result.now
    c.batch-batch.ensures.batch c.batch-batch.ensures.filled c.min-to.result last
    (record { batch = c.batch-batch.result; from = c.args.self.now.at - c.args.self.now.start; to = c.min-to.result })
    few c.batch-batch.ensures.wide
    (of_types c.args.table.now.schema.fields c.batch-batch.result.now.columns c.batch-batch.ensures.typed) refl refl refl
