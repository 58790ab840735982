use Rattle.std.proofs.Common.{◌≡◌, length, take, ◌∙◌, arith, rules}
use Rattle.std.proofs.lemmas.List.{length-map}
use Rattle.std.proofs.lemmas.List.Elements.{All-take}
use Rattle.typed_plan.specs.declared.plan.Aggregate.TheVariants.{Sum}
use Rattle.group_slots.specs.declared.partial_sums.PartialSum.{PartialSum}
use Rattle.group_slots.specs.Tallies.{no_rows}
use Rattle.group_slots.specs.Pieces.{piece_tally, tallies_of}
use Rattle.group_slots.proofs.Pieced.{blank_each, blank_within, both_within, sums_joined}
use Rattle.group_slots.proofs.sums.sum_in_pieces.Goals as goal

pub fill_pieces-requires-clause-small : goal.fill_pieces-requires-clause-small
fill_pieces-requires-clause-small g c = blank_within _ (All-take (λ (piece : PartialSum). piece_tally piece ≡ no_rows) (length c.args.tallies.now) c.blank_pieces-blank.result c.blank_pieces-blank.ensures)

pub returns-clause-stepped : goal.returns-clause-stepped
returns-clause-stepped g c =
    let before = c.args.tallies.now in
    let part = c.args.part.now in
    let rows = part.rows.now in
    let blank = take (length before) c.blank_pieces-blank.result in
    let long : length blank ≡ length before = search rules in
    let all = All-take (λ (piece : PartialSum). piece_tally piece ≡ no_rows) (length before) c.blank_pieces-blank.result c.blank_pieces-blank.ensures in
    sums_joined (Sum c.args.column) part.batch.now.columns part.groups.now rows before (tallies_of blank) (tallies_of c.fill_pieces.new.pieces) c.join_pieces.new.tallies (length rows)
    (length-map blank piece_tally ∙ long) c.requires.grouped (omega arith)
    (λ g below. blank_each blank all g (omega (arith, below, long)))
    (c.fill_pieces.ensures.stepped c.if-not-fill_pieces.false) c.join_pieces.ensures

pub returns-clause-small : goal.returns-clause-small
returns-clause-small g c =
    let pieces = c.fill_pieces.new.pieces in
    let long : length pieces ≡ length c.args.tallies.now = search rules in
    both_within c.args.part.now.fed (length c.args.part.now.rows.now) c.args.tallies.now (tallies_of pieces) c.join_pieces.new.tallies
    (length-map pieces piece_tally ∙ long) c.requires.small (c.fill_pieces.ensures.small c.if-not-fill_pieces.false) c.join_pieces.ensures
