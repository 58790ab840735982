-- Where the fields of records stand in a chunk.
use Rattle.std.proofs.Common.{◌≡◌, ◌<◌, ◌+◌, ◌*◌, ℕ, zero, suc, List, [], ◌∷◌, ◌++◌, Option, Some, None, Bor, length, take, get_or, append_assoc, refl, sym, ap, ◌∙◌, arith, inl, inr}
use Rattle.std.specs.Prelude.{option_map, unwrap_or}
use Rattle.std.proofs.Math.Nat.{mul-le-mul_left}
use Rattle.std.proofs.lemmas.Bool.{cases_lt}
use Rattle.std.proofs.lemmas.List.{get_or_append_left, get_or-append-add, get_or_push, length-append, take_more}
use Rattle.std.proofs.lemmas.Option.{none-some, same_Some}
use Rattle.csv.specs.Records.{field_at}
use Rattle.csv_input.specs.inside.Chunks.{ChunkAt, Holds}

-- a field of a record stands among all
pub among : (width rows row column : ℕ) → row < rows → column < width → width * row + column < width * rows
among width rows row column r c =
    let most = mul-le-mul_left width r in
    let step : width * (row + 1) ≡ width * row + width = omega arith in
    omega (arith, most, step, c)

some_at : (fields : List (List ℕ)) (i : ℕ) → i < length fields → field_at fields i ≡ Some (get_or fields i [])
unfolding field_at
some_at [] i low = absurd (omega (arith, low))
some_at (field ∷ fields) zero low = refl
some_at (field ∷ fields) (suc i) low = some_at fields i (omega (arith, low))

-- a field that was found
pub found_at : (fields : List (List ℕ)) (i : ℕ) (found : Option (Bor (List ℕ))) (other : Bor (List ℕ)) → option_map (λ s. s.now) found ≡ field_at fields i → i < length fields →
    (unwrap_or found other).now ≡ get_or fields i []
found_at fields i None other e low = absurd (none-some (get_or fields i []) (e ∙ some_at fields i low))
found_at fields i (Some field) other e low = same_Some field.now (get_or fields i []) (e ∙ some_at fields i low)

-- one record more
pub holds_more : (chunk : ChunkAt) (records : List (List (List ℕ))) (fields : List (List ℕ)) → length fields ≡ chunk.width → Holds chunk records →
    Holds (record { width = chunk.width; rows = chunk.rows + 1; fields = chunk.fields ++ fields }) (records ++ fields ∷ [])
holds_more chunk records fields wide holds =
    let step : chunk.width * (chunk.rows + 1) ≡ chunk.width * chunk.rows + chunk.width = omega arith in
    record {
      full = length-append chunk.fields fields ∙ omega (arith, holds.full, wide, step);
      count = length-append records (fields ∷ []) ∙ omega (arith, holds.count);
      long = λ k low. elim (cases_lt k chunk.rows) [
        | inl before ↦ ap length (get_or_append_left records (fields ∷ []) [] k (omega (arith, before, holds.count))) ∙ holds.long k before
        | inr later ↦
            let last : length records ≡ k = omega (arith, low, later, holds.count) in
            ap length (get_or_push records fields [] k last) ∙ wide
      ];
      each = λ k j low there. elim (cases_lt k chunk.rows) [
        | inl before ↦
            ap (λ (r : List (List ℕ)). get_or r j []) (get_or_append_left records (fields ∷ []) [] k (omega (arith, before, holds.count)))
            ∙ holds.each k j before there
            ∙ sym (get_or_append_left chunk.fields fields [] (chunk.width * k + j) (omega (arith, among chunk.width chunk.rows k j before there, holds.full)))
        | inr later ↦
            let last : length records ≡ k = omega (arith, low, later, holds.count) in
            let here : k ≡ chunk.rows = omega (arith, low, later) in
            let place : chunk.width * k + j ≡ length chunk.fields + j = ap (λ (n : ℕ). chunk.width * n + j) here ∙ ap (λ (n : ℕ). n + j) (sym holds.full) in
            ap (λ (r : List (List ℕ)). get_or r j []) (get_or_push records fields [] k last)
            ∙ sym (get_or-append-add chunk.fields fields j []) ∙ ap (λ (n : ℕ). get_or (chunk.fields ++ fields) n []) (sym place)
      ];
    }

-- no records
pub holds_none : (width : ℕ) → Holds (record { width = width; rows = 0; fields = [] }) []
holds_none width = record {
  full = omega arith;
  count = refl;
  long = λ k low. absurd (omega (arith, low));
  each = λ k j low there. absurd (omega (arith, low));
}

-- one field more of a record after others
pub fields_more : (base all new fields : List (List ℕ)) (i : ℕ) (partial field : List ℕ) → i < length fields → partial ≡ [] → field ≡ get_or fields i [] → all ≡ base ++ take i fields →
    new ≡ all ++ (partial ++ field) ∷ [] → new ≡ base ++ take (i + 1) fields
fields_more base all new fields i partial field low none is so e =
    e ∙ ap (λ (p : List ℕ). all ++ (p ++ field) ∷ []) none ∙ ap (λ (f : List ℕ). all ++ f ∷ []) is ∙ ap (λ (l : List (List ℕ)). l ++ get_or fields i [] ∷ []) so
    ∙ append_assoc base (take i fields) (get_or fields i [] ∷ []) ∙ ap (λ (l : List (List ℕ)). base ++ l) (sym (take_more fields i [] low))
