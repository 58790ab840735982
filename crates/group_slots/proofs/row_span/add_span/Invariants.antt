use Rattle.group_slots.specs.Adding.{AreAdded, lists_of}
use Rattle.group_slots.specs.RowSpans.{span_groups, span_rows}
use Rattle.group_slots.proofs.row_span.add_span.Given as goal

abbrev pub invariant-loop-item : goal.invariant-loop-item
invariant-loop-item l = AreAdded l.items l.span.batch.now.columns (span_rows l.span) (span_groups l.span) 1 l.span.fed
    (lists_of l.initial.tallies) (lists_of l.tallies) l.item
