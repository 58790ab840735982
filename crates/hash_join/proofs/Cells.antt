-- The values of a key, where they lie in the columns.
use Rattle.std.proofs.Common.{◌≡◌, ◌<◌, ℕ, zero, suc, true, List, [], ◌∷◌, length, get_or, nat_lt, option_map, unwrap_or, inl, inr, subst, sym, ap, ◌∙◌, ◌+◌, arith}
use Rattle.std.specs.List.{list_all}
use Rattle.std.proofs.lemmas.Bool.{cases_lt, ltb-true, and_parts}
use Rattle.std.proofs.lemmas.List.{ext_get_or, get_or-map, length-map}
use Rattle.std.proofs.lemmas.Option.{slice_get-map, slice_get-get_or}
use Rattle.scan_base.specs.declared.value.Value.{Value}
use Rattle.scan_base.specs.declared.value.Value.TheVariants.{Null}
use Rattle.scan_base.specs.Predicate.{cell_in}
use Rattle.arrays.specs.Batch.{row_of}
use Rattle.arrays.specs.Column.{ColumnAt, slot_of}
use Rattle.hash_join.specs.Pairs.{key_values}

-- a number that is within
pub within_at : (width : ℕ) (numbers : List ℕ) (i : ℕ) → list_all (λ number. nat_lt number width) numbers ≡ true → i < length numbers →
    get_or numbers i 0 < width
within_at width [] i all h = absurd (omega arith)
within_at width (number ∷ numbers) zero all h =
    ltb-true number width (and_parts (nat_lt number width) (list_all (λ number. nat_lt number width) numbers) all).0
within_at width (number ∷ numbers) (suc i) all h =
    within_at width numbers i (and_parts (nat_lt number width) (list_all (λ number. nat_lt number width) numbers) all).1 (omega arith)

-- a cell of a row
cell_at : (columns : List ColumnAt) (row number : ℕ) (column : ColumnAt) → number < length columns →
    cell_in (row_of columns row) number ≡ slot_of (get_or columns number column) row
cell_at columns row number column h = ap (λ there. unwrap_or there Null)
    (slice_get-map (λ (c : ColumnAt). slot_of c row) columns number
    ∙ ap (option_map (λ (c : ColumnAt). slot_of c row)) (slice_get-get_or columns number column h))

-- values that are the same before a place, and there
pub same_there : (xs ys : List Value) (n : ℕ) → ((i : ℕ) → i < n → get_or xs i Null ≡ get_or ys i Null) → get_or xs n Null ≡ get_or ys n Null →
    (i : ℕ) → i < n + 1 → get_or xs i Null ≡ get_or ys i Null
same_there xs ys n had now i within = elim (cases_lt i n) [
  | inl low ↦ had i low
  | inr high ↦
      let e : n ≡ i = omega (arith, high, within) in
      subst (λ (j : ℕ). get_or xs j Null ≡ get_or ys j Null) e now
]

-- two rows have the same key where each part is the same
pub same_parts : (key : List ℕ) (row other : List Value) → ((i : ℕ) → i < length key → get_or (key_values key row) i Null ≡ get_or (key_values key other) i Null) →
    key_values key row ≡ key_values key other
same_parts key row other same =
    ext_get_or Null (key_values key row) (key_values key other)
    (length-map key (cell_in row) ∙ sym (length-map key (cell_in other)))
    (λ i within. same i (omega (arith, within, length-map key (cell_in row))))

-- a part of a row's key is the slot of its column
pub part_at : (columns : List ColumnAt) (key : List ℕ) (row i : ℕ) (column : ColumnAt) →
    list_all (λ number. nat_lt number (length columns)) key ≡ true → i < length key →
    column ≡ get_or columns (get_or key i 0) column → slot_of column row ≡ get_or (key_values key (row_of columns row)) i Null
part_at columns key row i column all h is =
    ap (λ (c : ColumnAt). slot_of c row) is
    ∙ sym (cell_at columns row (get_or key i 0) column (within_at (length columns) key i all h))
    ∙ sym (get_or-map (cell_in (row_of columns row)) key i 0 Null h)
