use Rattle.std.proofs.Common.{ℤ, pos, ◌≤ℤ◌, ◌<ℤ◌, int_le, subst, ap, ◌∙◌, arith}
use Rattle.std.specs.Int.{w128}
use Rattle.std.proofs.lemmas.Int.{ints, to_z-of_z}
use Rattle.kernels.proofs.TypeEnds.{up_to_most, none_up_to}
use Rattle.kernels.proofs.ends.upper_end.Goals as goal

pub returns-then-number-lt0-clause-none : goal.returns-then-number-lt0-clause-none
returns-then-number-lt0-clause-none g c = λ other fits.
    let exact = g.met.E.Integral.exact_law in
    let number = c.args.number in
    let low = g.E.Bounded.low in
    let high = g.E.Bounded.high in
    let law = λ (x : ℤ). g.met.E.Bounded.bounds_law x exact in
    let absent : ¬ (g.E.Number.fits number) = subst (λ (z : ℤ). ¬ (g.E.Number.fits z)) (to_z-of_z w128 number c.ranges.number) (c.in-None.ensures.value exact) in
    let no : (low ≤ℤ number) × (number ≤ℤ high) → ⊥ = λ both. absent ((law number).1 both) in
    let zero = (law (pos 0)).0 (g.met.E.FixedWidth.small_fits_law 0 (omega arith)) in
    let has = (law other).0 fits in
    let side : number <ℤ pos 0 = omega (arith, ints, c.if-number-lt0.true) in
    none_up_to low high number other no zero.1 side has.0

pub returns-else-number-lt0-clause-some : goal.returns-else-number-lt0-clause-some
returns-else-number-lt0-clause-some g c = λ other fits.
    let exact = g.met.E.Integral.exact_law in
    let number = c.args.number in
    let low = g.E.Bounded.low in
    let high = g.E.Bounded.high in
    let law = λ (x : ℤ). g.met.E.Bounded.bounds_law x exact in
    let absent : ¬ (g.E.Number.fits number) = subst (λ (z : ℤ). ¬ (g.E.Number.fits z)) (to_z-of_z w128 number c.ranges.number) (c.in-None.ensures.value exact) in
    let no : (low ≤ℤ number) × (number ≤ℤ high) → ⊥ = λ both. absent ((law number).1 both) in
    let zero = (law (pos 0)).0 (g.met.E.FixedWidth.small_fits_law 0 (omega arith)) in
    let has = (law other).0 fits in
    let side : pos 0 ≤ℤ number = omega (arith, ints, c.if-number-lt0.false) in
    ap (λ (z : ℤ). int_le other z) (c.max_value.ensures.value exact) ∙ up_to_most low high number other no zero.0 side has.1
