use Rattle.std.proofs.Common.{ℤ, pos, ◌≤ℤ◌, ◌<ℤ◌, int_le, subst, ap, ◌∙◌, arith}
use Rattle.std.specs.Int.{w128}
use Rattle.std.proofs.lemmas.Int.{ints, to_z-of_z}
use Rattle.kernels.proofs.TypeEnds.{from_least, none_from}
use Rattle.kernels.proofs.ends.lower_end.Goals as goal

pub returns-then-number-lt0-clause-some : goal.returns-then-number-lt0-clause-some
returns-then-number-lt0-clause-some g c = λ other fits.
    let exact = g.met.E.Integral.exact_law in
    let number = c.args.number in
    let low = g.E.Bounded.low in
    let high = g.E.Bounded.high in
    let law = λ (x : ℤ). g.met.E.Bounded.bounds_law x exact in
    let absent : ¬ (g.E.Number.fits number) = subst (λ (z : ℤ). ¬ (g.E.Number.fits z)) (to_z-of_z w128 number c.ranges.number) (c.in-None.ensures.value exact) in
    let no : (low ≤ℤ number) × (number ≤ℤ high) → ⊥ = λ both. absent ((law number).1 both) in
    let zero = (law (pos 0)).0 (g.met.E.FixedWidth.small_fits_law 0 (omega arith)) in
    let has = (law other).0 fits in
    let side : number <ℤ pos 0 = omega (arith, ints, c.if-number-lt0.true) in
    ap (λ (z : ℤ). int_le z other) (c.min_value.ensures.value exact) ∙ from_least low high number other no zero.1 side has.0

pub returns-else-number-lt0-clause-none : goal.returns-else-number-lt0-clause-none
returns-else-number-lt0-clause-none g c = λ other fits.
    let exact = g.met.E.Integral.exact_law in
    let number = c.args.number in
    let low = g.E.Bounded.low in
    let high = g.E.Bounded.high in
    let law = λ (x : ℤ). g.met.E.Bounded.bounds_law x exact in
    let absent : ¬ (g.E.Number.fits number) = subst (λ (z : ℤ). ¬ (g.E.Number.fits z)) (to_z-of_z w128 number c.ranges.number) (c.in-None.ensures.value exact) in
    let no : (low ≤ℤ number) × (number ≤ℤ high) → ⊥ = λ both. absent ((law number).1 both) in
    let zero = (law (pos 0)).0 (g.met.E.FixedWidth.small_fits_law 0 (omega arith)) in
    let has = (law other).0 fits in
    let side : pos 0 ≤ℤ number = omega (arith, ints, c.if-number-lt0.false) in
    none_from low high number other no zero.0 side has.1
