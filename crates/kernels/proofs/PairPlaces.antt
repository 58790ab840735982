-- Pairs of codes of two dictionaries, and what is known of them.
use Rattle.std.proofs.Common.{◌≡◌, ℕ, ◌*◌, ◌<◌, List, length, get_or, set, length-set, get_or-set_same, get_or-set_other, inl, inr, refl, sym, subst, ap, ◌∙◌, arith}
use Rattle.std.proofs.Math.Nat.{mul_comm}
use Rattle.std.proofs.lemmas.Bool.{cases_eq}
use Rattle.std.proofs.lemmas.Nat.{mul-add-lt, same_from_place}
use Rattle.scan_base.specs.declared.comparison.Comparison.{Comparison}
use Rattle.scan_base.specs.declared.truth.Truth.{Truth}
use Rattle.scan_base.specs.declared.truth.Truth.TheVariants.{True, False, Unknown}
use Rattle.scan_base.specs.declared.value.Value.{Value}
use Rattle.scan_base.specs.declared.value.Value.TheVariants.{Null}
use Rattle.scan_base.specs.Comparison.{compared}
use Rattle.kernels.specs.Entries.{unless_known}
use Rattle.kernels.specs.TextPairs.{IsPairPlace, ArePairTruths}

-- a place is below the number of pairs
pair_low : (lefts rights : List Value) (left right : Value) (place : ℕ) → IsPairPlace lefts rights left right place → place < length lefts * length rights
pair_low lefts rights left right place at =
    let low = mul-add-lt at.code (length rights) at.other (length lefts) at.code_within at.other_within in
    omega (arith, low, at.place_is, mul_comm (length lefts) (length rights))

-- a place is that of one pair
same_pair : (lefts rights : List Value) (a b c d : Value) (place : ℕ) → IsPairPlace lefts rights a b place → IsPairPlace lefts rights c d place → (a ≡ c) × (b ≡ d)
same_pair lefts rights a b c d place p q =
    let codes = same_from_place p.code p.other q.code q.other (length rights) p.other_within q.other_within (sym p.place_is ∙ q.place_is) in (
      p.left_is ∙ ap (λ n. get_or lefts n Null) codes.0 ∙ sym q.left_is,
      p.right_is ∙ ap (λ n. get_or rights n Null) codes.1 ∙ sym q.right_is,
    )

stays : (truth : Truth) → unless_known truth truth ≡ truth
stays True = refl
stays False = refl
stays Unknown = refl

-- one pair more is known
pub one_known : (comparison : Comparison) (lefts rights : List Value) (truths : List Truth) (left right : Value) (pair : ℕ) (truth : Truth) →
    IsPairPlace lefts rights left right pair → truth ≡ compared comparison left right → ArePairTruths comparison lefts rights truths →
    ArePairTruths comparison lefts rights (set truths pair truth)
one_known comparison lefts rights truths left right pair truth at is had = record {
  long = length-set truths pair truth ∙ had.long;
  stand = λ a b place p. elim (cases_eq place pair) [
    | inl same ↦
        let two = same_pair lefts rights left right a b pair at (subst (IsPairPlace lefts rights a b) same p) in
        let low : pair < length truths = omega (arith, pair_low lefts rights left right pair at, had.long) in
        let now : get_or (set truths pair truth) place Unknown ≡ compared comparison a b =
        ap (λ n. get_or (set truths pair truth) n Unknown) same ∙ get_or-set_same truths pair truth Unknown low
        ∙ is ∙ ap (λ v. compared comparison v right) two.0 ∙ ap (compared comparison a) two.1 in
        ap (unless_known (compared comparison a b)) now ∙ stays (compared comparison a b)
    | inr other ↦ ap (unless_known (compared comparison a b)) (get_or-set_other truths pair place truth Unknown other) ∙ had.stand a b place p
  ];
}
