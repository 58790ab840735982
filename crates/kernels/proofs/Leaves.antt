-- What is said of a part of a column, as what is said of rows.
use Rattle.std.proofs.Common.{◌≡◌, ℕ, ◌+◌, List, [], ◌∷◌, map, get_or, Option, Some, None, Result, Ok, Err, IfOk, IfSome, refl, sym, ap, ap₂, ◌∙◌}
use Rattle.std.specs.List.{range_with_len}
use Rattle.std.proofs.lemmas.List.FromFn.{get_or-map-range_with_len}
use Rattle.scan_base.specs.declared.truth.Truth.{Truth}
use Rattle.scan_base.specs.declared.truth.Truth.TheVariants.{Unknown}
use Rattle.scan_base.specs.declared.value.Value.{Value}
use Rattle.scan_base.specs.declared.value.Value.TheVariants.{Null}
use Rattle.arrays.specs.Column.{slot_of}
use Rattle.kernels.specs.declared.column_part.ColumnPart.{ColumnPart}
use Rattle.kernels.specs.declared.column_part.RowRange.{RowRange}
use Rattle.kernels.specs.Parts.{cell_of, said_in, said_of}
use Rattle.kernels.proofs.WordRows.{same_map, same_range}

pub part_said : (test : Value → Truth) (part : ColumnPart) (rows : RowRange) (number : ℕ) → part.from ≡ rows.from → part.len ≡ rows.len →
    ((row : ℕ) → slot_of part.column.now row ≡ cell_of rows row number) → said_of test part ≡ said_in (λ row. test (cell_of rows row number)) rows
part_said test part rows number from len cells =
    ap₂ (λ (a n : ℕ). map (λ (place : ℕ). test (slot_of part.column.now place)) (range_with_len a n)) from len
    ∙ same_map (λ (place : ℕ). test (slot_of part.column.now place)) (λ (row : ℕ). test (cell_of rows row number)) (λ row. ap test (cells row)) (range_with_len rows.from rows.len)

-- the negation, where a NOT is written
map_map : {X Y Z : Type 0} (g : Y → Z) (f : X → Y) (xs : List X) → map g (map f xs) ≡ map (λ x. g (f x)) xs
map_map g f [] = refl
map_map g f (x ∷ xs) = ap (λ r. g (f x) ∷ r) (map_map g f xs)

pub turned_said : (turn : Truth → Truth) (test : ℕ → Truth) (rows : RowRange) → map turn (said_in test rows) ≡ said_in (λ row. turn (test row)) rows
turned_said turn test rows = map_map turn test (range_with_len rows.from rows.len)

-- what is said of each row, by a test that looks at no cell but the row's own
pub any_cell : (test : (ℕ → Value) → ℕ → Truth) (mask : List Truth) (from len : ℕ) → ((cell : ℕ → Value) → mask ≡ map (test cell) (range_with_len from len)) →
    (cells : ℕ → ℕ → Value) → mask ≡ map (λ row. test (cells row) row) (range_with_len from len)
any_cell test mask from len is cells =
    let none : ℕ → Value = λ _. Null in
    is none
    ∙ same_range (test none) (λ row. test (cells row) row) from from len (λ i lt.
    sym (get_or-map-range_with_len (test none) from len i (from + i) Unknown lt refl)
    ∙ ap (λ (l : List Truth). get_or l i Unknown) (sym (is none) ∙ is (cells (from + i)))
    ∙ get_or-map-range_with_len (test (cells (from + i))) from len i (from + i) Unknown lt refl)

-- of what was found, if anything was
pub found_then : {X E : Type 0} (P Q : X → Type 0) (found : Result (Option X) E) → ((x : X) → P x → Q x) → IfOk found (λ some. IfSome some P) → IfOk found (λ some. IfSome some Q)
found_then P Q (Ok (Some x)) then had = then x had
found_then P Q (Ok None) then had = had
found_then P Q (Err e) then had = had
