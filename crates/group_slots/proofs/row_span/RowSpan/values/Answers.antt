use Rattle.std.proofs.Common.{◌≡◌, ◌<◌, List, length, get_or, ap, ◌∙◌, arith}
use Rattle.std.proofs.lemmas.List.Elements.{All-get_or}
use Rattle.arrays.specs.Column.{ColumnAt}
use Rattle.group_slots.proofs.RangeTallies.{values_of_cut, values_of_whole}
use Rattle.group_slots.proofs.row_span.RowSpan.values.Goals as goal
use Rattle.group_slots.proofs.row_span.RowSpan.values.Goals.{After-index-columns-column}

-- the column is that of the batch
is : (c : After-index-columns-column) → c.index-columns-column.result ≡ get_or c.args.self.now.batch.now.columns c.args.column c.index-columns-column.result
is c = c.index-columns-column.is ∙ ap (λ (columns : List ColumnAt). get_or columns c.args.column c.index-columns-column.result) c.columns.ensures.columns

-- and has a slot for each row
long : (c : After-index-columns-column) → (c.index-columns-column.result).len ≡ c.args.self.now.batch.now.rows
long c =
    let columns = c.columns.result.now in
    let low : c.args.column < length columns = omega (arith, c.requires.there, ap length c.columns.ensures.columns) in
    ap (λ (column : ColumnAt). column.len) c.index-columns-column.is
    ∙ All-get_or (λ (column : ColumnAt). column.len ≡ c.args.self.now.batch.now.rows) columns c.args.column c.index-columns-column.result low c.columns.ensures.long

pub returns-then-rows-len-clause-count : goal.returns-then-rows-len-clause-count
returns-then-rows-len-clause-count c =
    let s = c.args.self.now in
    let at = (goal.at.returns-then-rows-len-clause-count c).After-index-columns-column in
    values_of_whole s.batch.now.columns c.args.column s.from s.to s.batch.now.rows c.values_in-all.result c.index-columns-column.result c.requires.there (is at) (long at)
    c.requires.span.ordered c.requires.span.within (c.if-rows-len.true ∙ c.len.ensures.count) c.values_in-all.ensures

pub slice-requires-clause-within : goal.slice-requires-clause-within
slice-requires-clause-within c =
    omega (arith, long (goal.at.slice-requires-clause-within c).After-index-columns-column, c.requires.span.within)

pub returns-clause-count : goal.returns-clause-count
returns-clause-count c =
    let s = c.args.self.now in
    let at = (goal.at.returns-clause-count c).After-index-columns-column in
    values_of_cut s.batch.now.columns c.args.column s.from s.to c.values_in-some.result c.index-columns-column.result c.in_ok-part.part c.requires.there (is at)
    c.in_ok-part.ensures c.values_in-some.ensures

pub returns-clause-few : goal.returns-clause-few
returns-clause-few c =
    omega (arith, c.values_in-some.ensures, ap (λ (column : ColumnAt). column.len) c.in_ok-part.ensures)
