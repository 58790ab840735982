-- Keys, cell by cell.
use Rattle.std.proofs.Common.{◌≡◌, ◌≢◌, ℕ, zero, suc, ◌<◌, Bool, true, false, List, [], ◌∷◌, length, map, get_or, Option, None, refl, sym, ap, ◌∙◌, true≢false, arith, nat_lt}
use Rattle.std.specs.Prelude.{IsTrue}
use denote.Struct.Props.{props}
use Rattle.std.specs.List.{list_all}
use Rattle.std.proofs.lemmas.List.{get_or-map}
use Rattle.std.proofs.lemmas.Bool.{and_parts}
use Rattle.std.proofs.lemmas.Option.{unwrap_or-slice_get}
use borrow.Author.Tests.{ltb-true}
use Rattle.scan_base.specs.declared.value.Value.{Value}
use Rattle.scan_base.specs.declared.value.Value.TheVariants.{Null}
use Rattle.scan_base.specs.Predicate.{cell_in}
use Rattle.arrays.specs.Column.{ColumnAt, slot_of}
use Rattle.arrays.specs.Batch.{row_of}
use Rattle.first_rows.specs.declared.key.RowKey.{RowKey}
use Rattle.first_rows.specs.Parts.{part_self, parts_sound, same_part, same_parts}

-- parts of one number that are the same one by one are the same
pub same_all : (a b : List (Option Value)) → length a ≡ length b →
    ((k : ℕ) → k < length a → same_part (get_or a k None) (get_or b k None) ≡ true) → same_parts a b ≡ true
same_all [] [] long same = refl
same_all [] (y ∷ ys) long same = absurd (omega arith)
same_all (x ∷ xs) [] long same = absurd (omega arith)
same_all (x ∷ xs) (y ∷ ys) long same =
    let first : same_part x y ≡ true = same 0 (omega arith) in
    let rest : same_parts xs ys ≡ true = same_all xs ys (omega arith) (λ k lt. same (suc k) (omega arith)) in
    rw (first, rest) refl

pub decide : (t : Bool) → (t ≡ true → ⊥) → t ≡ false
decide true never = absurd (never refl)
decide false never = refl

-- parts of which one differs differ
pub same_none : (a b : List (Option Value)) (k : ℕ) → same_part (get_or a k None) (get_or b k None) ≡ false → same_parts a b ≡ false
same_none a b k differs = decide (same_parts a b) (λ (h : same_parts a b ≡ true).
    true≢false (sym (part_self (get_or b k None)) ∙ ap (λ c. same_part (get_or c k None) (get_or b k None)) (sym (parts_sound a b h)) ∙ differs))

-- parts of two numbers differ
pub same_not : (a b : List (Option Value)) → length a ≢ length b → same_parts a b ≡ false
same_not a b differ = decide (same_parts a b) (λ (h : same_parts a b ≡ true). differ (ap length (parts_sound a b h)))

-- a cell of a row is the slot of its column
cell_at : (columns : List ColumnAt) (row key : ℕ) (d : ColumnAt) → key < length columns → cell_in (row_of columns row) key ≡ slot_of (get_or columns key d) row
cell_at columns row key d there =
    unwrap_or-slice_get (row_of columns row) key Null ∙ get_or-map (λ (c : ColumnAt). slot_of c row) columns key d Null there

-- a cell of a key is the slot of its column
pub key_slot : (columns : List ColumnAt) (row : ℕ) (keys : List ℕ) (place : ℕ) (d : ColumnAt) → place < length keys →
    get_or keys place 0 < length columns →
    get_or (map (cell_in (row_of columns row)) keys) place Null ≡ slot_of (get_or columns (get_or keys place 0) d) row
key_slot columns row keys place d within there =
    get_or-map (cell_in (row_of columns row)) keys place 0 Null within
    ∙ cell_at columns row (get_or keys place 0) d there

-- each key names a column that is there
pub key_there : (keys : List ℕ) (n place : ℕ) → place < length keys → list_all (λ key. nat_lt key n) keys ≡ true → get_or keys place 0 < n
key_there (key ∷ keys) n zero within all = ltb-true key n (and_parts (nat_lt key n) (list_all (λ k. nat_lt k n) keys) all).0
key_there (key ∷ keys) n (suc place) within all =
    key_there keys n place (omega arith) (and_parts (nat_lt key n) (list_all (λ k. nat_lt k n) keys) all).1
key_there [] n place within all = absurd (omega arith)

-- that the columns of a row are there, and the row is in its batch
abbrev AreThere : RowKey → Type 0
AreThere first = IsTrue (list_all (λ column. nat_lt column (length first.batch.now.columns)) first.columns.now)

abbrev IsWithin : RowKey → Type 0
IsWithin first = first.row < first.batch.now.rows

-- a row with other proofs of both
abbrev with_proofs : (first : RowKey) → AreThere first → IsWithin first → RowKey
with_proofs first there within = record {
  number = first.number;
  batch = first.batch;
  columns = first.columns;
  row = first.row;
  there = there;
  within = within;
}

-- is that row
pub row_only : (first : RowKey) (there : AreThere first) (within : IsWithin first) → with_proofs first there within ≡ first
row_only first there within =
    let one : IsProp (AreThere first) = hlevel props in
    let two : IsProp (IsWithin first) = hlevel props in
    ap (λ (given : AreThere first). with_proofs first given within) (one there first.there) ∙ ap (with_proofs first first.there) (two within first.within)
