-- Dictionaries by their ids.
use Rattle.std.proofs.Common.{◌≡◌, ℕ, suc, ◌==◌, ◌<◌, ◌++◌, Bool, true, false, List, [], ◌∷◌, length, take, drop, set, refl, ap, ◌∙◌, if◌then◌else◌}
use Rattle.std.proofs.lemmas.Bool.{eq-eqb, eqb-true}
use Rattle.std.proofs.lemmas.List.{set_split}
use Rattle.scan_base.specs.declared.value.Value.{Value}
use Rattle.ipc_batch.specs.State.{Dictionaries, values_under, with_values}

-- the first entry of an id is the one whose place its values take
pub put_found : (entries : Dictionaries) (j id : ℕ) (values : List Value) (entry : ℕ × List Value) → j < length entries →
    drop j entries ≡ entry ∷ drop (suc j) entries → (entry.0 == id) ≡ true → set entries j (id, values) ≡ take j entries ++ with_values id values (drop j entries)
put_found entries j id values entry low front same = set_split entries j (id, values) low ∙ rw (front, same) refl

-- the values that were put under an id
pub under_set : (entries : Dictionaries) (id : ℕ) (values : List Value) → values_under (with_values id values entries) id ≡ values
under_set [] id values = rw (eq-eqb id id refl) refl
under_set (entry ∷ entries) id values = by (entry.0 == id) refl (under_set entries id values)
  where
    by : (found : Bool) → (entry.0 == id) ≡ found → values_under (with_values id values entries) id ≡ values →
        values_under (if found then (id, values) ∷ entries else entry ∷ with_values id values entries) id ≡ values
    by true same behind = rw (eq-eqb id id refl) refl
    by false other behind = rw other behind

-- those under another id stay
pub under_other : (entries : Dictionaries) (id other : ℕ) (values : List Value) → (id == other) ≡ false → values_under (with_values id values entries) other ≡ values_under entries other
under_other [] id other values apart = rw apart refl
under_other (entry ∷ entries) id other values apart = by (entry.0 == id) refl (under_other entries id other values apart)
  where
    by : (found : Bool) → (entry.0 == id) ≡ found → values_under (with_values id values entries) other ≡ values_under entries other →
        values_under (if found then (id, values) ∷ entries else entry ∷ with_values id values entries) other ≡ values_under (entry ∷ entries) other
    by true same behind = let here : (entry.0 == other) ≡ false = ap (λ (n : ℕ). n == other) (eqb-true entry.0 id same) ∙ apart in rw (apart, here) refl
    by false none behind = rw behind refl
