-- Slots of one column with the same code, or with the same number, have the same value.
use Rattle.std.proofs.Common.{◌≡◌, ◌+◌, ℕ, ℤ, get_or, Bool, true, false, if◌then◌else◌, List, Option, Some, None, unwrap_or, refl, sym, ap, ◌∙◌}
use Rattle.scan_base.specs.declared.value.Value.{Value}
use Rattle.scan_base.specs.declared.value.Value.TheVariants.{Null, Bool as Flag, Int, Text}
use Rattle.arrays.specs.declared.layout.Layout.{Layout}
use Rattle.arrays.specs.declared.layout.Layout.TheVariants as layout
use Rattle.arrays.specs.Column.{ColumnAt, slot_of}
use Rattle.arrays.specs.Dictionary.{entry_at}
use Rattle.arrays.specs.Indices.{IndicesAt}
use Rattle.arrays.specs.Layout.{layout_slot}
use Rattle.arrays.specs.Number.{integer_at, decimal_at}
use Rattle.arrays.specs.Texts.{text_at}
use Rattle.arrays.specs.Validity.{is_valid}
use Rattle.hash_join.specs.Codes.{valid_layout_code, column_code, value_number, layout_number, column_number, AreOne}

-- what a code leads to
abbrev led : IndicesAt → ℤ → Value
led cells code = unwrap_or (entry_at cells.dictionary code) Null

slot_led : (cells : IndicesAt) (place : ℕ) (code : ℤ) → valid_layout_code (layout.Indices cells) place ≡ Some code → layout_slot (layout.Indices cells) place ≡ led cells code
slot_led cells place code e = of (is_valid cells.validity place) refl
  where
    of : (valid : Bool) → is_valid cells.validity place ≡ valid → layout_slot (layout.Indices cells) place ≡ led cells code
    of true h =
        let f : Some (integer_at cells.index cells.values place) ≡ Some code = sym (ap (λ (b : Bool). if b then Some (integer_at cells.index cells.values place) else None) h) ∙ e in
        let g : integer_at cells.index cells.values place ≡ code = cc in
        ap (λ (b : Bool). if b then led cells (integer_at cells.index cells.values place) else Null) h ∙ ap (led cells) g
    of false h =
        let f : ◌≡◌ {A = Option ℤ} None (Some code) = sym (ap (λ (b : Bool). if b then Some (integer_at cells.index cells.values place) else None) h) ∙ e in
        absurd cc

same_coded : (of : Layout) (place other : ℕ) (code : ℤ) → valid_layout_code of place ≡ Some code → valid_layout_code of other ≡ Some code → layout_slot of place ≡ layout_slot of other
same_coded (layout.Indices cells) place other code e f = slot_led cells place code e ∙ sym (slot_led cells other code f)
same_coded (layout.Integers cells) place other code e f = cc
same_coded (layout.Decimals cells) place other code e f = cc
same_coded (layout.Bools cells) place other code e f = cc
same_coded (layout.Texts cells) place other code e f = cc

-- what a slot of numbers has
abbrev number_where : Bool → ℤ → Value
number_where valid number = if valid then Int number else Null

-- what a slot of truth values has
abbrev flag_where : Bool → Bool → Value
flag_where valid flag = if valid then Flag flag else Null

same_ints : (valid also : Bool) (first second number : ℤ) → value_number (number_where valid first) ≡ Some number → value_number (number_where also second) ≡ Some number →
    number_where valid first ≡ number_where also second
same_ints true true first second number e f =
    let one : first ≡ number = cc in
    let two : second ≡ number = cc in
    ap Int (one ∙ sym two)
same_ints true false first second number e f = cc
same_ints false also first second number e f = cc

same_flags : (valid also first second : Bool) (number : ℤ) → value_number (flag_where valid first) ≡ Some number → value_number (flag_where also second) ≡ Some number →
    flag_where valid first ≡ flag_where also second
same_flags true true true true number e f = refl
same_flags true true false false number e f = refl
same_flags true true true false number e f = cc
same_flags true true false true number e f = cc
same_flags true false first second number e f = cc
same_flags false also first second number e f = cc

no_text : (valid : Bool) (text : List ℕ) (number : ℤ) → value_number (if valid then Text text else Null) ≡ Some number → ⊥
no_text true text number e = cc
no_text false text number e = cc

same_numbered : (of : Layout) (place other : ℕ) (number : ℤ) → layout_number of place ≡ Some number → layout_number of other ≡ Some number → layout_slot of place ≡ layout_slot of other
same_numbered (layout.Indices cells) place other number e f = same_coded (layout.Indices cells) place other number e f
same_numbered (layout.Integers cells) place other number e f =
    same_ints (is_valid cells.validity place) (is_valid cells.validity other) (integer_at cells.integer cells.values place) (integer_at cells.integer cells.values other) number e f
same_numbered (layout.Decimals cells) place other number e f =
    same_ints (is_valid cells.validity place) (is_valid cells.validity other) (decimal_at cells.values place) (decimal_at cells.values other) number e f
same_numbered (layout.Bools cells) place other number e f =
    same_flags (is_valid cells.validity place) (is_valid cells.validity other) (get_or cells.values place false) (get_or cells.values other false) number e f
same_numbered (layout.Texts cells) place other number e f = absurd (no_text (is_valid cells.validity place) (text_at cells place) number e)

-- the same code is some code
one_code : (code other : Option ℤ) → AreOne code other → (some : ℤ) × (code ≡ Some some) × (other ≡ Some some)
one_code (Some code) (Some other) e = (code, refl, ap Some (sym e))
one_code (Some code) None e = absurd e
one_code None other e = absurd e

-- slots with the same code have the same value
pub same_code : (column : ColumnAt) (row other : ℕ) (code second : Option ℤ) → code ≡ column_code column row → second ≡ column_code column other → AreOne code second →
    slot_of column row ≡ slot_of column other
same_code column row other code second is also one =
    let some = one_code code second one in
    same_coded column.layout (column.first + row) (column.first + other) some.0 (sym is ∙ some.1) (sym also ∙ some.2)

-- slots with the same number have the same value
pub same_number : (column : ColumnAt) (row other : ℕ) (number second : Option ℤ) → number ≡ column_number column row → second ≡ column_number column other → AreOne number second →
    slot_of column row ≡ slot_of column other
same_number column row other number second is also one =
    let some = one_code number second one in
    same_numbered column.layout (column.first + row) (column.first + other) some.0 (sym is ∙ some.1) (sym also ∙ some.2)
