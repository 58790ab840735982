use Rattle.std.proofs.Common.{◌≤◌, ℕ, ◌+◌, ◌-◌, length, ap, arith, ◌∙◌}
use Rattle.row_sources.proofs.PartPlace.{ends_at, ends_last, ends_later}
use Rattle.row_sources.proofs.place.PlaceRows.end_in.Goals as goal

pub returns-then-number-count : goal.returns-then-number-count
returns-then-number-count c =
    c.rows-rows.ensures ∙ ends_later c.args.self.now.table c.args.self.now.cursor c.requires.placed c.args.number c.requires.there c.batch.result.now c.batch.ensures.batch
    (omega (arith, c.if-number-count.true, c.batch_count-count.ensures))

pub overflow_sub-result-2 : goal.overflow_sub-result-2
overflow_sub-result-2 c =
    let last : length c.args.self.now.table.batches ≤ c.args.number + 1 = omega (arith, c.if-number-count.false, c.batch_count-count.ensures) in
    let ends = ends_last c.args.self.now.table c.args.self.now.cursor c.requires.placed c.args.number c.requires.there c.batch.result.now c.batch.ensures.batch last in
    omega (arith, ends, c.rows.ensures.rows, c.rows-rows.ensures)

pub returns : goal.returns
returns c =
    let last : length c.args.self.now.table.batches ≤ c.args.number + 1 = omega (arith, c.if-number-count.false, c.batch_count-count.ensures) in
    ap (λ (n : ℕ). n - (c.rows.result - c.args.self.now.cursor.to)) c.rows-rows.ensures
    ∙ ends_at c.args.self.now.table c.args.self.now.cursor c.requires.placed c.args.number c.requires.there c.batch.result.now c.batch.ensures.batch last
    c.rows.result c.rows.ensures.rows c.requires.few
