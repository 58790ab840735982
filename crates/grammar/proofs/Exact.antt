-- Reading tells which sentence the tokens are, or which token offends, or which opener is one too many.
use Rattle.std.proofs.Common.{◌≡◌, ℕ, zero, suc, ◌+◌, ◌≤◌, Bool, true, false, List, [], ◌∷◌, ◌++◌, Some, None, refl, sym, ◌∙◌, ap, subst, append_assoc, arith}
use Rattle.grammar.specs.Rule.{Rule, Language, Spells, Nowhere, Nested, Any}
use Rattle.grammar.specs.Reading.{Outcome, Read, Stuck, Over, nullable, starts, reads, read}
use Rattle.grammar.proofs.Determined.{well_made, is_guarded, covers, determined, wholly}
use Rattle.grammar.proofs.Telling.{Tells}
use Rattle.grammar.proofs.Laws.{Lawful, Fair, Speaks, Solid, Within, switch}
use Rattle.grammar.proofs.Rules.{speaks, speaks_flat, solid_of, StartsWith, started, Covers, Disjoins}
use Rattle.grammar.proofs.Lawfulness.{lawful}
use Rattle.grammar.proofs.Whole.{Complete, complete}
use Rattle.grammar.proofs.Deep.{Agrees, deeper, read_deeper, spells_more, depth}

nil_right : {T : Type 0} (ts : List T) → ts ++ [] ≡ ts
nil_right [] = refl
nil_right {T} (t ∷ ts) = ap (λ (z : List T). t ∷ z) (nil_right ts)

module _ {K V P : Type 0} (kinds : List K) (rule : Rule K V P P) (s after : K → Bool) (cov : Covers kinds) (dis : Disjoins kinds)
    (made_well : well_made rule ≡ true) (guarded : is_guarded rule ≡ true) (filled : nullable rule ≡ false)
    (begins_so : covers kinds (starts rule) s ≡ true) (one_way : determined kinds s after rule after ≡ true) where
  within : (d : ℕ) → Within (Nested rule d) (Any rule)
  within d ts v q = (d, q)

  solid_at : (d : ℕ) → Solid (Nested rule d)
  solid_at zero v q = solid_of Nowhere (λ w n. n) rule filled v q
  solid_at (suc d) v q = solid_of (Nested rule d) (solid_at d) rule filled v q

  speaks_at : (d : ℕ) → Speaks (Nested rule d)
  speaks_at zero = speaks_flat Nowhere rule made_well guarded
  speaks_at (suc d) = speaks (Nested rule d) (speaks_at d) rule made_well

  speaks_any : Speaks (Any rule)
  speaks_any = let a = speaks_at 0 in (a.0, a.1, (0, a.2))

  start_at : (d : ℕ) → StartsWith (Nested rule d) s
  start_at zero t ts v q = cov (starts rule) s begins_so t.0 (started kinds Nowhere (λ w n. n) s after (λ u us w n. absurd n) cov rule after one_way t ts v q)
  start_at (suc d) t ts v q = cov (starts rule) s begins_so t.0 (started kinds (Nested rule d) (solid_at d) s after (start_at d) cov rule after one_way t ts v q)

  close : Within (Spells (Any rule) rule) (Any rule)
  close ts v q = let a = depth rule rule ts v q in (suc a.0, a.1)

  pub law_at : (d : ℕ) → Lawful (read rule d) (Nested rule d) (Any rule)
  law_at zero ts = switch (reads None rule) (read rule 0) (Spells Nowhere rule) (Spells (Any rule) rule) (Nested rule 0) (Any rule) ts (λ us e. refl) (λ us v q. q) close
      (reads None rule ts) (lawful None Nowhere (Any rule) (λ o. cc) (λ o. cc) (λ us v n. absurd n) speaks_any (λ v n. n) rule made_well guarded ts)
  law_at (suc d) ts = switch (reads (Some (read rule d)) rule) (read rule (suc d)) (Spells (Nested rule d) rule) (Spells (Any rule) rule) (Nested rule (suc d)) (Any rule) ts (λ us e. refl) (λ us v q. q) close
      (reads (Some (read rule d)) rule ts) (lawful (Some (read rule d)) (Nested rule d) (Any rule) (λ o. law_at d) (λ o. speaks_at d) (within d) speaks_any (solid_at d) rule made_well refl ts)

  pub law_of : {A : Type 0} (g : Rule K V P A) (d : ℕ) → well_made g ≡ true → Lawful (reads (Some (read rule d)) g) (Spells (Nested rule d) g) (Spells (Any rule) g)
  law_of g d w = lawful (Some (read rule d)) (Nested rule d) (Any rule) (λ o. law_at d) (λ o. speaks_at d) (within d) speaks_any (solid_at d) g w refl

  pub solid_rule : {A : Type 0} (g : Rule K V P A) (d : ℕ) → nullable g ≡ false → Solid (Spells (Nested rule d) g)
  solid_rule g d n = solid_of (Nested rule d) (solid_at d) g n

  whole_at : (d : ℕ) → Complete (read rule d) (Nested rule d) after
  whole_at zero = complete kinds cov dis None Nowhere (Any rule) (λ o. cc) (λ o. cc) (λ us v n. absurd n) speaks_any (λ v n. n) (λ o us v n. n) s after (λ t ts v n. absurd n) (λ ts v rest n fol. absurd n) rule after made_well guarded one_way
  whole_at (suc d) = complete kinds cov dis (Some (read rule d)) (Nested rule d) (Any rule) (λ o. law_at d) (λ o. speaks_at d) (within d) speaks_any (solid_at d) (λ o. cc) s after (start_at d) (whole_at d) rule after made_well refl one_way

  module _ {A : Type 0} (top : Rule K V P A) (top_made_well : well_made top ≡ true) (top_one_way : determined kinds s after top (λ k. false) ≡ true) where
    -- every sentence is read at its depth, and at each that is greater
    found_at : (d : ℕ) (ts : List (K × V)) (v : A) → Spells (Nested rule d) top ts v → reads (Some (read rule d)) top ts ≡ Read v []
    found_at d ts v q =
        ap (reads (Some (read rule d)) top) (sym (nil_right ts)) ∙
        complete kinds cov dis (Some (read rule d)) (Nested rule d) (Any rule) (λ o. law_at d) (λ o. speaks_at d) (within d) speaks_any (solid_at d) (λ o. cc) s after (start_at d) (whole_at d) top (λ k. false) top_made_well refl top_one_way ts v [] q tt

    -- what is read at depth d, other than that it is too deep, is read at the depth of any sentence
    meets : (d : ℕ) (ts : List (K × V)) (v : A) → Spells (Any rule) top ts v → Agrees (reads (Some (read rule d)) top ts) (Read v [])
    meets d ts v q =
        let a = depth rule top ts v q in
        let la : a.0 ≤ a.0 + d = omega arith in
        let ld : d ≤ a.0 + d = omega arith in
        let found : reads (Some (read rule (a.0 + d))) top ts ≡ Read v [] = found_at (a.0 + d) ts v (spells_more rule top a.0 (a.0 + d) la ts v a.1) in
        subst (Agrees (reads (Some (read rule d)) top ts)) found (deeper (Some (read rule d)) (Some (read rule (a.0 + d))) (λ o. o) (read_deeper rule d (a.0 + d) ld) top ts)

    abbrev All : Language (K × V) A
    All = Spells (Any rule) top

    differs : (o p q : Outcome (K × V) A) → o ≡ p → Agrees o q → Agrees p q
    differs o p q e a = subst (λ (x : Outcome (K × V) A). Agrees x q) e a

    tells : (d : ℕ) (ts : List (K × V)) (o : Outcome (K × V) A) → reads (Some (read rule d)) top ts ≡ o → Fair (reads (Some (read rule d)) top) (Spells (Nested rule d) top) All ts o → Tells (Spells (Nested rule d) top) All ts (wholly o)
    tells d ts (Read v []) e p =
        let same_front : p.front ≡ ts = sym (nil_right p.front) ∙ sym p.splits in (
          subst (λ (z : List (K × V)). Spells (Nested rule d) top z v) same_front p.spells,
          λ w q. let a : Read w [] ≡ Read v [] = differs (reads (Some (read rule d)) top ts) (Read v []) (Read w []) e (meets d ts w q) in cc,
        )
    tells d ts (Read v (t ∷ rest)) e p = record {
      front = p.front;
      splits = p.splits;
      begins = ([], v, subst (λ (z : List (K × V)). Spells (Nested rule d) top z v) (sym (nil_right p.front)) p.spells);
      ends = λ more w q. let a : Read w [] ≡ Read v (t ∷ more) = differs (reads (Some (read rule d)) top (p.front ++ t ∷ more)) (Read v (t ∷ more)) (Read w []) (p.local (t ∷ more) refl) (meets d (p.front ++ t ∷ more) w q) in cc;
    }
    tells d ts (Stuck []) e p = record {
      front = p.front;
      splits = p.splits;
      begins = (p.more, p.value, p.goes_on);
      ends = λ w q. let a : Read w [] ≡ Stuck [] = differs (reads (Some (read rule d)) top (p.front ++ [])) (Stuck []) (Read w []) (p.local [] refl) (meets d (p.front ++ []) w (subst (λ (z : List (K × V)). All z w) (sym (nil_right p.front)) q)) in cc;
    }
    tells d ts (Stuck (t ∷ place)) e p = record {
      front = p.front;
      splits = p.splits;
      begins = (p.more, p.value, p.goes_on);
      ends = λ more w q. let a : Read w [] ≡ Stuck (t ∷ more) = differs (reads (Some (read rule d)) top (p.front ++ t ∷ more)) (Stuck (t ∷ more)) (Read w []) (p.local (t ∷ more) refl) (meets d (p.front ++ t ∷ more) w q) in cc;
    }
    tells d ts Over e p = record {
      front = p.front ++ p.opener ∷ [];
      rest = p.rest;
      splits = p.splits ∙ sym (append_assoc p.front (p.opener ∷ []) p.rest);
      begins = (p.more, p.value, subst (λ (z : List (K × V)). All z p.value) (sym (append_assoc p.front (p.opener ∷ []) p.more)) p.goes_on);
      passes = λ b.
          let q : Spells (Nested rule d) top (p.front ++ p.opener ∷ b.0) b.1 = subst (λ (z : List (K × V)). Spells (Nested rule d) top z b.1) (append_assoc p.front (p.opener ∷ []) b.0) b.2 in
          let a : Over ≡ Read b.1 [] = sym (p.local b.0) ∙ found_at d (p.front ++ p.opener ∷ b.0) b.1 q in cc;
    }

    pub exact : (d : ℕ) (ts : List (K × V)) → Tells (Spells (Nested rule d) top) All ts (wholly (reads (Some (read rule d)) top ts))
    exact d ts = tells d ts (reads (Some (read rule d)) top ts) refl (law_of top d top_made_well ts)

    -- the tokens say at most one value
    pub one_value : (ts : List (K × V)) (v w : A) → Spells (Any rule) top ts v → Spells (Any rule) top ts w → v ≡ w
    one_value ts v w q r =
        let a = depth rule top ts v q in
        let found : reads (Some (read rule a.0)) top ts ≡ Read v [] = found_at a.0 ts v a.1 in
        let b : Read w [] ≡ Read v [] = differs (reads (Some (read rule a.0)) top ts) (Read v []) (Read w []) found (meets a.0 ts w r) in cc
