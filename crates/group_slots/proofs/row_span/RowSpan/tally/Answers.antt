use Rattle.std.proofs.Common.{◌-◌}
use Rattle.group_slots.proofs.RangeTallies.{key_tally, rows_tally, values_tally}
use Rattle.group_slots.specs.RowSpans.{rows_of_span}
use Rattle.group_slots.proofs.row_span.RowSpan.tally.Goals as goal

pub returns-in-Key : goal.returns-in-Key
returns-in-Key c = key_tally c.args.item c.in-Key.field-0 (rows_of_span c.args.self.now) c.new.result c.in-Key.is c.new.ensures

pub returns-in-CountRows : goal.returns-in-CountRows
returns-in-CountRows c =
    let s = c.args.self.now in
    rows_tally c.args.item s.batch.now.columns s.from (s.to - s.from) c.of_count.result c.in-CountRows.is c.of_count.ensures

pub returns-in_ok-values-in-Count : goal.returns-in_ok-values-in-Count
returns-in_ok-values-in-Count c =
    let s = c.args.self.now in
    values_tally c.args.item c.in-Count.column s.batch.now.columns s.from (s.to - s.from) _ c.of_count-in-Count.result c.in-Count.is c.of_count-in-Count.ensures
    c.in_ok-values-in-Count.ensures.count c.in_ok-values-in-Count.ensures.few
