-- Keys that are the same are equal.
use Rattle.std.specs.Prelude.{◌≡◌, true, List, [], ◌∷◌}
use Rattle.std.specs.Cmp.{IsEquivalence}
use Rattle.std.proofs.Common.{refl, ap, ◌∙◌}
use Rattle.std.proofs.lemmas.Bool.{and_parts}
use Rattle.scan_base.specs.declared.value.Value.{Value}
use Rattle.typed_plan.specs.GroupedRows.{same_value, same_key}
use Rattle.first_rows.specs.Keys.{value_sound, value_self, either_way}

-- keys that are the same are equal
pub key_sound : (a b : List Value) → same_key a b ≡ true → a ≡ b
key_sound [] [] h = refl
key_sound (x ∷ xs) (y ∷ ys) h =
    let parts = and_parts (same_value x y) (same_key xs ys) h in
    ap (λ z. z ∷ xs) (value_sound x y parts.0) ∙ ap (λ zs. y ∷ zs) (key_sound xs ys parts.1)
key_sound _ _ h = cc

-- a key is the same as itself
pub key_self : (a : List Value) → same_key a a ≡ true
key_self [] = refl
key_self (x ∷ xs) = rw (value_self x, key_self xs) refl

key_turned : (a b : List Value) → same_key a b ≡ true → same_key b a ≡ true
key_turned a b h = rw (key_sound a b h) (key_self b)

-- to be the same is an equivalence
pub same_key_laws : IsEquivalence same_key
same_key_laws = record {
  refl = key_self;
  symm = λ a b. either_way (same_key a b) (same_key b a) (key_turned a b) (key_turned b a);
  congr = λ a b c h. ap (λ k. same_key k c) (key_sound a b h);
}
