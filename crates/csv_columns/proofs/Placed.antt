-- The field at a place of a record, and none after the last.
use Rattle.std.proofs.Common.{◌≡◌, ℕ, zero, suc, List, [], ◌∷◌, Option, Some, None, Bor, get_or, refl, ap, ◌∙◌}
use Rattle.std.specs.Prelude.{option_map, unwrap_or}
use Rattle.csv.specs.Records.{field_at}

unwrapped_at : (fields : List (List ℕ)) (i : ℕ) → unwrap_or (field_at fields i) [] ≡ get_or fields i []
unfolding field_at
unwrapped_at [] i = refl
unwrapped_at (field ∷ fields) zero = refl
unwrapped_at (field ∷ fields) (suc i) = unwrapped_at fields i

unwrapped_now : (found : Option (Bor (List ℕ))) (other : Bor (List ℕ)) → other.now ≡ [] → (unwrap_or found other).now ≡ unwrap_or (option_map (λ (s : Bor (List ℕ)). s.now) found) []
unwrapped_now None other none = none
unwrapped_now (Some field) other none = refl

pub found_in : (fields : List (List ℕ)) (i : ℕ) (found : Option (Bor (List ℕ))) (other : Bor (List ℕ)) → other.now ≡ []
    → option_map (λ (s : Bor (List ℕ)). s.now) found ≡ field_at fields i → (unwrap_or found other).now ≡ get_or fields i []
found_in fields i found other none e = unwrapped_now found other none ∙ ap (λ (o : Option (List ℕ)). unwrap_or o []) e ∙ unwrapped_at fields i
