use Rattle.std.proofs.Common.{◌≡◌, ℕ, ℤ, ◌∙◌, sym, ap, inl, inr, arith}
use Rattle.std.proofs.Math.Nat.{mul-le-mul_left}
use Rattle.std.proofs.lemmas.Bool.{cases_lt}
use Rattle.std.specs.Int.Signed.{≤ℤ_refl}
use Rattle.arrays.specs.Number.{element_at}
use Rattle.arrays.proofs.Ordered.{below, not_below, through}
use Rattle.arrays.proofs.index_checks.greatest_of.Goals.{then-lt, else-lt}
use Rattle.arrays.proofs.index_checks.greatest_of.Goals as goal

pub read-element-requires : goal.read-element-requires
read-element-requires g c = omega (arith, mul-le-mul_left g.E.Element.WIDTH c.loop-place-test.true, c.requires)

pub loop-place-preserved : goal.loop-place-preserved
loop-place-preserved g c k low =
    let number = g.E.Number.value in
    let at : ℕ → ℤ = λ i. number (g.E.FixedWidth.of_bits (element_at g.E.Element.WIDTH c.args.values.now i)) in
    let place = c.loop-place.place in
    let here : number c.read-element.result ≡ at place = ap number c.read-element.ensures in
    let ordered = g.met.E.Number.order_law c.loop-place.greatest c.read-element.result g.met.E.Integral.exact_law in
    elim c.if-lt.branch [
      | then-lt w ↦
          let up = below g.E.PartialOrd.partial_cmp number c.loop-place.greatest c.read-element.result ordered (sym c.lt.ensures ∙ w.if-lt.true) in
          elim (cases_lt k place) [
            | inl before ↦ rw w.greatest-is (through _ _ _ (c.loop-place.invariant k before) up)
            | inr after ↦ let e : k ≡ place = omega arith in rw (w.greatest-is, here, e) (≤ℤ_refl _)
          ]
      | else-lt w ↦
          let up = not_below g.E.PartialOrd.partial_cmp number c.loop-place.greatest c.read-element.result ordered (sym c.lt.ensures ∙ w.if-lt.false) in
          elim (cases_lt k place) [
            | inl before ↦ rw w.greatest-is (c.loop-place.invariant k before)
            | inr after ↦ let e : k ≡ place = omega arith in rw (w.greatest-is, e, ← here) up
          ]
    ]
