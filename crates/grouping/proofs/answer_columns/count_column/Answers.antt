use Rattle.std.proofs.Common.{◌≤◌, ◌-◌, pos, All, ap, map, sym, subst, ◌∙◌, take, drop}
use Rattle.scan_base.specs.declared.value.Value.TheVariants.{Int}
use Rattle.scan_base.specs.Limits.{most_rows}
use Rattle.group_slots.specs.declared.item_tallies.ItemTallies.{ItemTallies}
use Rattle.group_slots.specs.declared.tally.Tally.{Tally}
use Rattle.group_slots.specs.HeldTallies.{tallies_in}
use Rattle.grouping.proofs.Answering.{if_ok}
use Rattle.grouping.proofs.Padded.{narrowed_few, narrowed_shown, part_few, part_shown}
use Rattle.grouping.proofs.answer_columns.count_column.Goals as goal

pub column_of_counts-requires : goal.column_of_counts-requires
column_of_counts-requires c =
    part_few most_rows c.args.from (c.args.to - c.args.from) c.in-Counts.counts.items _
    (ap (λ counts. take (c.args.to - c.args.from) (drop c.args.from counts)) c.as_slice.ensures.value)
    (subst (λ (tallies : ItemTallies). All (λ (tally : Tally). tally.count ≤ most_rows) (tallies_in tallies)) c.in-Counts.is c.requires.few)

pub column_of_counts-requires-in-Sums : goal.column_of_counts-requires-in-Sums
column_of_counts-requires-in-Sums c =
    narrowed_few most_rows c.args.from (c.args.to - c.args.from) c.in-Sums.sums.items _ _
    (ap (λ sums. take (c.args.to - c.args.from) (drop c.args.from sums)) c.as_slice-in-Sums.ensures.value)
    (c.as_slice-in-Sums-2.ensures.value ∙ c.in_ok-counts-in-Sums.ensures)
    (subst (λ (tallies : ItemTallies). All (λ (tally : Tally). tally.count ≤ most_rows) (tallies_in tallies)) c.in-Sums.is c.requires.few)

pub returns-in-Counts-clause-values : goal.returns-in-Counts-clause-values
returns-in-Counts-clause-values c =
    let many = c.args.to - c.args.from in
    if_ok _ _ (λ made values. values
    ∙ part_shown c.args.from many c.in-Counts.counts.items _ (ap (λ counts. take many (drop c.args.from counts)) c.as_slice.ensures.value)
    ∙ ap (λ (tallies : ItemTallies). map (λ (tally : Tally). Int (pos tally.count)) (take many (drop c.args.from (tallies_in tallies)))) (sym c.in-Counts.is))
    c.column_of_counts.result c.column_of_counts.ensures.values

pub returns-in_ok-counts-in-Sums-clause-values : goal.returns-in_ok-counts-in-Sums-clause-values
returns-in_ok-counts-in-Sums-clause-values c =
    let many = c.args.to - c.args.from in
    if_ok _ _ (λ made values. values
    ∙ narrowed_shown c.args.from many c.in-Sums.sums.items _ _ (ap (λ sums. take many (drop c.args.from sums)) c.as_slice-in-Sums.ensures.value)
    (c.as_slice-in-Sums-2.ensures.value ∙ c.in_ok-counts-in-Sums.ensures)
    ∙ ap (λ (tallies : ItemTallies). map (λ (tally : Tally). Int (pos tally.count)) (take many (drop c.args.from (tallies_in tallies)))) (sym c.in-Sums.is))
    c.column_of_counts-in-Sums.result c.column_of_counts-in-Sums.ensures.values
