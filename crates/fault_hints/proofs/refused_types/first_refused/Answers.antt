use Rattle.std.proofs.Common.{◌≡◌, ◌∙◌, ◌<◌, ◌+◌, ◌-◌, ℕ, suc, None, sym, refl, ap, arith, option_map}
use Rattle.flatbuf.specs.Layout.{VectorAt}
use Rattle.fault_hints.specs.RefusedTypes.{column_at, first_refused, refused_at}
use Rattle.fault_hints.proofs.refused_types.first_refused.Goals as goal

-- it is not at this place
one_less : (vector : VectorAt) (place count : ℕ) → place < count → refused_at vector place ≡ None
    → first_refused vector place (count - place) ≡ first_refused vector (place + 1) (count - (place + 1))
one_less vector place count lt none =
    let more : count - place ≡ suc (count - (place + 1)) = omega arith in
    rw more (rw none refl)

pub loop-place-preserved : goal.loop-place-preserved
loop-place-preserved c =
    let none = sym c.refused_at.ensures ∙ ap (option_map column_at) c.in_default.is in
    c.loop-place.invariant
    ∙ one_less c.args.vector.now c.loop-place.place c.args.vector.now.count (rw c.len-place-end.ensures at c.loop-place-test.true) none
