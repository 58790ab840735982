use Rattle.std.proofs.Common.{◌+◌, not, ap, sym, ◌∙◌}
use Rattle.scan_base.specs.Predicate.{cell_in}
use Rattle.arrays.specs.Batch.{row_of}
use Rattle.group_slots.proofs.ValidBits.{none_when, one_when}
use Rattle.group_slots.proofs.counts.valid_count.Goals as goal

pub returns-then-get-clause-counted : goal.returns-then-get-clause-counted
returns-then-get-clause-counted c =
    one_when (cell_in (row_of c.args.batch.now.columns c.args.row) c.args.column)
    (c.requires.bits.bits c.args.row c.requires.within ∙ ap not (sym c.get.ensures ∙ c.if-get.true))

pub returns-else-get-clause-counted : goal.returns-else-get-clause-counted
returns-else-get-clause-counted c =
    none_when (cell_in (row_of c.args.batch.now.columns c.args.row) c.args.column)
    (c.requires.bits.bits c.args.row c.requires.within ∙ ap not (sym c.get.ensures ∙ c.if-get.false))
