-- Slots of one column with the same code have the same value.
use Rattle.std.proofs.Common.{◌≡◌, ◌+◌, ℕ, ℤ, Bool, true, false, if◌then◌else◌, unwrap_or, refl, sym, ap, ◌∙◌}
use Rattle.scan_base.specs.declared.value.Value.{Value}
use Rattle.scan_base.specs.declared.value.Value.TheVariants.{Null, Int}
use Rattle.arrays.specs.declared.layout.Layout.{Layout}
use Rattle.arrays.specs.declared.layout.Layout.TheVariants as layout
use Rattle.arrays.specs.Column.{ColumnAt, slot_of}
use Rattle.arrays.specs.Dictionary.{entry_at}
use Rattle.arrays.specs.Layout.{layout_slot}
use Rattle.arrays.specs.Number.{integer_at}
use Rattle.arrays.specs.Validity.{is_valid}
use Rattle.coded_keys.specs.Codes.{code_of, layout_code}

-- a number where a slot is valid
abbrev number_where : Bool → ℤ → Value
number_where valid number = if valid then Int number else Null

-- what a function gives of it
abbrev led_where : (ℤ → Value) → Bool → ℤ → Value
led_where led valid number = if valid then led number else Null

-- the same number where both are valid leads to the same
same_led : (led : ℤ → Value) (valid also : Bool) (first second : ℤ) → number_where valid first ≡ number_where also second →
    led_where led valid first ≡ led_where led also second
same_led led true true first second e = let one : first ≡ second = cc in ap led one
same_led led true false first second e = cc
same_led led false true first second e = cc
same_led led false false first second e = refl

same_coded : (of : Layout) (place other : ℕ) → layout_code of place ≡ layout_code of other → layout_slot of place ≡ layout_slot of other
same_coded (layout.Indices cells) place other e =
    same_led (λ (code : ℤ). unwrap_or (entry_at cells.dictionary code) Null) (is_valid cells.validity place) (is_valid cells.validity other)
    (integer_at cells.index cells.values place) (integer_at cells.index cells.values other) e
same_coded (layout.Integers cells) place other e = e
same_coded (layout.Decimals cells) place other e = e
same_coded (layout.Bools cells) place other e = e
same_coded (layout.Texts cells) place other e = e

-- slots with the same code have the same value
pub same_code : (column : ColumnAt) (row other : ℕ) (code second : Value) → code ≡ code_of column row → second ≡ code_of column other → code ≡ second →
    slot_of column row ≡ slot_of column other
same_code column row other code second is also one =
    same_coded column.layout (column.first + row) (column.first + other) (sym is ∙ one ∙ also)
