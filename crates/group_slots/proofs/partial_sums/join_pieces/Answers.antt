use Rattle.std.proofs.Common.{◌≡◌, get_or, ap, sym, ◌∙◌, subst, arith}
use Rattle.std.proofs.lemmas.List.{get_or-map, length-map}
use Rattle.scan_base.specs.Limits.{most_rows}
use Rattle.group_slots.specs.declared.tally.Tally.{Tally}
use Rattle.group_slots.specs.Tallies.{no_rows, both}
use Rattle.group_slots.specs.Counting.{IsSmall}
use Rattle.group_slots.specs.Pieces.{piece_tally, tallies_of}
use Rattle.group_slots.proofs.Pieced.{done_more, few_done}
use Rattle.group_slots.proofs.partial_sums.join_pieces.Goals as goal
use Rattle.group_slots.proofs.partial_sums.join_pieces.Goals.{After-tally}

-- the piece of the group, as a tally
piece : (c : After-tally) → get_or (tallies_of c.args.pieces.now) c.loop-group.group no_rows ≡ c.tally.result
piece c = get_or-map piece_tally c.args.pieces.now c.loop-group.group _ no_rows (omega (arith, c.requires.long, c.loop-group.invariant.long)) ∙ sym c.tally.ensures

pub with-requires-clause-few : goal.with-requires-clause-few
with-requires-clause-few c =
    let others = tallies_of c.args.pieces.now in
    let few = few_done c.args.tallies.now others c.loop-group.tallies c.loop-group.group most_rows c.loop-group.invariant (omega (arith, c.loop-group.invariant.long))
    (length-map c.args.pieces.now piece_tally ∙ c.requires.long) c.requires.few in
    omega (arith, few, ap (λ (tally : Tally). tally.count) (piece (goal.at.with-requires-clause-few c).After-tally))

pub with-requires-clause-other : goal.with-requires-clause-other
with-requires-clause-other c =
    subst IsSmall (piece (goal.at.with-requires-clause-other c).After-tally)
    (c.requires.others.small c.loop-group.group (omega (arith, c.requires.long, c.loop-group.invariant.long, length-map c.args.pieces.now piece_tally)))

pub loop-group-preserved : goal.loop-group-preserved
loop-group-preserved c =
    done_more c.args.tallies.now (tallies_of c.args.pieces.now) c.loop-group.group c.loop-group.tallies c.with.result c.loop-group.invariant
    (omega (arith, c.loop-group.invariant.long))
    (c.with.ensures.both ∙ ap (both (get_or c.loop-group.tallies c.loop-group.group no_rows)) (sym (piece (goal.at.loop-group-preserved c).After-tally)))
