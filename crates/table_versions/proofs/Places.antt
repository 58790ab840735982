-- Where a table goes among the others, entry by entry.
use Rattle.std.proofs.Common.{◌≡◌, ℕ, zero, suc, ◌+◌, true, false, if◌then◌else◌, List, [], ◌∷◌, ◌++◌, take, drop, Some, refl, sym, ap, ◌∙◌, arith, append_assoc, slice_get}
use Rattle.std.specs.Str.{bytes_eq}
use Rattle.std.specs.Cmp.Lexicographic.{slice_cmp}
use Rattle.std.specs.Ordering.{nat_cmp, is_lt}
use Rattle.std.proofs.lemmas.Option.{slice_get_within}
use Rattle.table_versions.specs.Table.{Name}
use Rattle.table_versions.specs.Database.{with_table}
use Rattle.table_versions.specs.Place.{IsPlace}

-- an item of a list, with those before it and those after it
pub split_at : {X : Type 0} (xs : List X) (i : ℕ) (x : X) → slice_get xs i ≡ Some x →
    (drop i xs ≡ x ∷ drop (i + 1) xs) × (take (i + 1) xs ≡ take i xs ++ x ∷ [])
split_at [] i x at = cc
split_at (y ∷ ys) zero x at = let same : y ≡ x = cc in (ap (λ z. z ∷ ys) same, ap (λ z. z ∷ []) same)
split_at (y ∷ ys) (suc i) x at =
    let rest = split_at ys i x at in
    let more : suc i + 1 ≡ suc (i + 1) = omega arith in
    rw more (rest.0, ap (λ zs. y ∷ zs) rest.1)

module _ {T : Type 0} (entries : List (Name × T)) (name : Name) (i : ℕ) (entry : Name × T) where
  -- as far as here the entries stay as they are
  abbrev pub SoFar : ℕ → Type 0
  SoFar n = (table : T) → with_table name table entries ≡ take n entries ++ with_table name table (drop n entries)

  -- the entry of this name is replaced
  pub placed_there : SoFar i → slice_get entries i ≡ Some entry → bytes_eq entry.0 name ≡ true → IsPlace entries name i (i + 1)
  placed_there so_far at same = record {
    ordered = omega arith;
    within = omega (arith, slice_get_within entries i entry at);
    replaced = λ table. so_far table ∙ ap (λ rest. take i entries ++ rest)
        (ap (with_table name table) (split_at entries i entry at).0
        ∙ ap (λ b. if b then (name, table) ∷ drop (i + 1) entries
        else (if is_lt (slice_cmp nat_cmp name entry.0) then (name, table) ∷ entry ∷ drop (i + 1) entries
        else entry ∷ with_table name table (drop (i + 1) entries))) same);
  }

  -- a table of a lower name goes before it
  pub placed_before : SoFar i → slice_get entries i ≡ Some entry → bytes_eq entry.0 name ≡ false →
      is_lt (slice_cmp nat_cmp name entry.0) ≡ true → IsPlace entries name i i
  placed_before so_far at other below = record {
    ordered = omega arith;
    within = omega (arith, slice_get_within entries i entry at);
    replaced = λ table. so_far table ∙ ap (λ rest. take i entries ++ rest)
        (ap (with_table name table) (split_at entries i entry at).0
        ∙ rw (other, below) (ap (λ rest. (name, table) ∷ rest) (sym (split_at entries i entry at).0)));
  }

  -- an entry of a lower name stays
  pub passed : SoFar i → slice_get entries i ≡ Some entry → bytes_eq entry.0 name ≡ false →
      is_lt (slice_cmp nat_cmp name entry.0) ≡ false → SoFar (i + 1)
  passed so_far at other above = λ table.
      let parts = split_at entries i entry at in
      so_far table ∙ ap (λ rest. take i entries ++ rest) (ap (with_table name table) parts.0 ∙ rw (other, above) refl)
      ∙ sym (append_assoc (take i entries) (entry ∷ []) (with_table name table (drop (i + 1) entries)))
      ∙ ap (λ front. front ++ with_table name table (drop (i + 1) entries)) (sym parts.1)
