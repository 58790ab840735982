use Rattle.std.proofs.Common.{◌≡◌, ◌<◌, true, ℤ, pos, FitsSigned, length, get_or, ap, ◌∙◌, arith, rules}
use Rattle.std.specs.Int.{w64}
use Rattle.std.proofs.lemmas.Int.{to_z-of_z}
use Rattle.std.proofs.lemmas.List.Elements.{All-get_or}
use Rattle.group_slots.specs.declared.partial_sums.PartialSum.{PartialSum}
use Rattle.group_slots.specs.Pieces.{piece_tally}
use Rattle.group_slots.specs.Slots.{number_or_null}
use Rattle.group_slots.specs.Tallies.{summed}
use Rattle.group_slots.proofs.Pieced.{fill_more, piece_few}
use Rattle.group_slots.proofs.partial_sums.fill_pieces.Goals as goal

abbrev none : PartialSum
none = record { count = 0; sum = pos 0 }

pub add_slot-fits-requires : goal.add_slot-fits-requires
add_slot-fits-requires g c =
    let groups = c.args.part.now.groups.now in
    let low : get_or groups c.loop-k.k 0 < length c.args.pieces.now =
    All-get_or (λ group. group < length c.args.pieces.now) groups c.loop-k.k 0 (omega arith) c.requires.grouped in
    let few = piece_few c.loop-k.pieces (get_or groups c.loop-k.k 0) none (omega (arith, low, c.loop-k.invariant.long)) in
    omega (arith, few, c.loop-k.invariant.few, c.requires.few)

pub loop-k-preserved : goal.loop-k-preserved
loop-k-preserved g c =
    let groups = c.args.part.now.groups.now in
    let row = get_or c.args.part.now.rows.now c.loop-k.k 0 in
    let number = c.number-number.result in
    let old = get_or c.loop-k.pieces (get_or groups c.loop-k.k 0) none in
    let fits : FitsSigned w64 number = search rules in
    let low : get_or groups c.loop-k.k 0 < length c.args.pieces.now =
    All-get_or (λ group. group < length c.args.pieces.now) groups c.loop-k.k 0 (omega arith) c.requires.grouped in
    fill_more c.args.column _ groups _ c.args.pieces.now c.loop-k.k c.loop-k.pieces none c.add_slot-fits.new.self c.args.slots.now c.is_valid-valid.result number
    c.loop-k.holds c.add_slot-fits.result c.loop-k.invariant (omega (arith, low, c.loop-k.invariant.long)) fits
    c.is_valid-valid.ensures c.number-number.ensures (c.requires.slots.cells row)
    (λ (held : c.add_slot-fits.result ≡ true). c.add_slot-fits.ensures.added held ∙ ap (λ (z : ℤ). summed (piece_tally old) (number_or_null c.is_valid-valid.result z)) (to_z-of_z w64 number fits))
    c.add_slot-fits.ensures.few
