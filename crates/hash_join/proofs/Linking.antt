-- Chains as they are linked, from the last row down.
use Rattle.std.proofs.Common.{◌≡◌, ◌≤◌, ◌<◌, ◌+◌, ℕ, Bool, true, false, List, get_or, Option, Some, None, inl, inr, refl, sym, ap, ◌∙◌, arith}
use Rattle.std.proofs.lemmas.Bool.{cases_lt}
use Rattle.std.proofs.lemmas.Bool.Decides.{eqb_tells}
use Rattle.std.proofs.lemmas.List.{get_or-set_other, length-set}
use Rattle.std.proofs.lemmas.Grind.{get_or-set_at}
use Rattle.std.proofs.Math.ListN.{set}
use Rattle.hash_join.specs.Chains.{stands, Leads, AreLinked}

-- a row that does not stand in a chain changes nothing in front of it
before_lead : (in_chain : ℕ → Bool) (count row head : ℕ) → Leads in_chain count (row + 1) head → in_chain row ≡ false → Leads in_chain count row head
before_lead in_chain count row head had no_row = record {
  after = omega (arith, had.after);
  none = λ s from to. elim (cases_lt row s) [ inl lt ↦ had.none s (omega arith) to | inr ge ↦ let e : s ≡ row = omega arith in rw e no_row ];
  there = had.there;
}

-- a row that stands in a chain leads it
here_lead : (in_chain : ℕ → Bool) (count row : ℕ) → in_chain row ≡ true → Leads in_chain count row row
here_lead in_chain count row yes_row = record {
  after = omega arith;
  none = λ s from to. absurd (omega arith);
  there = λ h. yes_row;
}

module _ (buckets : ℕ → Option ℕ) (mask count : ℕ) (heads links : List ℕ) where
  -- a row without a bucket
  pub link_none : (row : ℕ) → AreLinked buckets mask count heads links (row + 1) → buckets row ≡ None → AreLinked buckets mask count heads links row
  link_none row had null = record {
    heads_count = had.heads_count;
    links_count = had.links_count;
    first = λ b le. before_lead (λ r. stands (Some b) (buckets r)) count row (get_or heads b 0) (had.first b le) (ap (stands (Some b)) null);
    next = λ s b from to at. elim (cases_lt row s) [
      | inl lt ↦ had.next s b (omega arith) to at
      | inr ge ↦ let e : s ≡ row = omega arith in let f : buckets row ≡ Some b = ap buckets (sym e) ∙ at in cc
    ];
  }

  -- a row of a bucket
  pub link_some : (row bucket : ℕ) → AreLinked buckets mask count heads links (row + 1) → row < count → buckets row ≡ Some bucket → bucket ≤ mask →
      AreLinked buckets mask count (set heads bucket row) (set links row (get_or heads bucket 0)) row
  link_some row bucket had within is le_mask = record {
    heads_count = length-set heads bucket row ∙ had.heads_count;
    links_count = length-set links row (get_or heads bucket 0) ∙ had.links_count;
    first = λ d le. elim (eqb_tells bucket d) [
      | inl same ↦ let e : d ≡ bucket = sym same.1 in
          rw (get_or-set_at heads bucket d row 0 e (omega (arith, had.heads_count)))
          (here_lead (λ r. stands (Some d) (buckets r)) count row (ap (stands (Some d)) is ∙ same.0))
      | inr other ↦ rw (get_or-set_other heads bucket d row 0 (λ e. other.1 (sym e)))
          (before_lead (λ r. stands (Some d) (buckets r)) count row (get_or heads d 0) (had.first d le) (ap (stands (Some d)) is ∙ other.0))
    ];
    next = λ s b from to at. elim (cases_lt row s) [
      | inl lt ↦ rw (get_or-set_other links row s (get_or heads bucket 0) 0 (λ e. absurd (omega arith))) (had.next s b (omega arith) to at)
      | inr ge ↦
          let e : s ≡ row = omega arith in
          let f : buckets row ≡ Some b = ap buckets (sym e) ∙ at in
          let g : b ≡ bucket = cc in
          rw (e, g) (rw (get_or-set_at links row row (get_or heads bucket 0) 0 refl (omega (arith, had.links_count))) (had.first bucket le_mask))
    ];
  }
