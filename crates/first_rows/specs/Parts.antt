-- Inside: what is compared of the values of keys, when two are the same in it, and what a hash
-- takes of it.
use Rattle.std.specs.Prelude.{◌≡◌, ◌&&◌, ℕ, Bool, true, false, List, [], ◌∷◌, Option, Some, None}
use Rattle.std.specs.Cmp.{IsEquivalence}
use Rattle.std.specs.Hash as fed
use Rattle.std.proofs.Common.{refl, ap, ◌∙◌}
use Rattle.std.proofs.lemmas.Bool.{and_parts}
use Rattle.scan_base.specs.declared.value.Value.{Value}
use Rattle.typed_plan.specs.GroupedRows.{same_value}
use Rattle.first_rows.specs.Keys.{either_way, value_input, value_self, value_sound}

-- what a hash takes of a part: a value, or of a long text that has a number only that it is one
abbrev pub part_input : Option Value → List (List ℕ)
part_input None = fed.u8 4
part_input (Some value) = value_input value

-- whether two parts are the same: two long texts, of which their numbers are compared, or two
-- values
abbrev pub same_part : Option Value → Option Value → Bool
same_part None None = true
same_part (Some a) (Some b) = same_value a b
same_part _ _ = false

-- whether all parts are, one by one
abbrev pub same_parts : List (Option Value) → List (Option Value) → Bool
same_parts [] [] = true
same_parts (a ∷ as') (b ∷ bs) = same_part a b && same_parts as' bs
same_parts _ _ = false

part_sound : (a b : Option Value) → same_part a b ≡ true → a ≡ b
part_sound None None h = refl
part_sound (Some a) (Some b) h = ap Some (value_sound a b h)
part_sound _ _ h = cc

pub part_self : (a : Option Value) → same_part a a ≡ true
part_self None = refl
part_self (Some a) = value_self a

-- parts that are the same are equal
pub parts_sound : (a b : List (Option Value)) → same_parts a b ≡ true → a ≡ b
parts_sound [] [] h = refl
parts_sound (x ∷ xs) (y ∷ ys) h =
    let both = and_parts (same_part x y) (same_parts xs ys) h in
    ap (λ z. z ∷ xs) (part_sound x y both.0) ∙ ap (λ zs. y ∷ zs) (parts_sound xs ys both.1)
parts_sound _ _ h = cc

-- and each is the same as itself
pub parts_self : (a : List (Option Value)) → same_parts a a ≡ true
parts_self [] = refl
parts_self (x ∷ xs) = rw (part_self x, parts_self xs) refl

parts_turned : (a b : List (Option Value)) → same_parts a b ≡ true → same_parts b a ≡ true
parts_turned a b h = rw (parts_sound a b h) (parts_self b)

-- to be the same is an equivalence
pub same_parts_laws : IsEquivalence same_parts
same_parts_laws = record {
  refl = parts_self;
  symm = λ a b. either_way (same_parts a b) (same_parts b a) (parts_turned a b) (parts_turned b a);
  congr = λ a b c h. ap (λ k. same_parts k c) (parts_sound a b h);
}
