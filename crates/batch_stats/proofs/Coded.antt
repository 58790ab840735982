-- What the codes of a column's indices lead to.
use Rattle.std.proofs.Common.{◌≡◌, ◌≤◌, ◌<◌, ◌+◌, ◌-◌, ◌⊎◌, ℕ, true, false, inl, inr, Option, None, unwrap_or, sym, ap, subst, ◌∙◌, arith}
use Rattle.scan_base.specs.declared.value.Value.{Value}
use Rattle.scan_base.specs.declared.value.Value.TheVariants.{Null}
use Rattle.arrays.specs.Column.{ColumnAt, slot_of, values_of}
use Rattle.arrays.specs.Dictionary.{entry_at}
use Rattle.arrays.specs.Indices.{IndicesAt, entry_of}
use Rattle.arrays.specs.Layout.{layout_slot}
use Rattle.arrays.specs.Number.{byte_width, element_at, number_from}
use Rattle.arrays.specs.Validity.{is_valid}
use Rattle.arrays.specs.declared.layout.Layout.{Layout}
use Rattle.arrays.specs.declared.layout.Layout.TheVariants as layout
use Rattle.batch_stats.specs.Stats.{ends_of, with_value}
use Rattle.batch_stats.specs.inside.Slots.{ends_with, IsFirstValid}
use Rattle.batch_stats.proofs.Passes.{column_pass, pass_kept, pass_more, where_null, where_some}
use Rattle.batch_stats.proofs.Standing.{Stands, stands_kept, stands_more, stands_new}

abbrev pub coded : IndicesAt → ℕ → Value
coded cells code = unwrap_or (entry_at cells.dictionary (number_from cells.index code)) Null

-- what the index of a slot leads to
abbrev pub led_value : IndicesAt → ℕ → Value
led_value cells place = unwrap_or (entry_of cells place) Null

module _ (column : ColumnAt) (cells : IndicesAt) (is : column.layout ≡ layout.Indices cells) where
  abbrev slot : ℕ → Value
  slot = layout_slot column.layout

  abbrev behind : ℕ
  behind = column.first + column.len

  -- a slot of the column by its place among all
  pub slot_at : (place : ℕ) → column.first ≤ place → slot_of column (place - column.first) ≡ layout_slot column.layout place
  slot_at place low = let e : column.first + (place - column.first) ≡ place = omega arith in ap (layout_slot column.layout) e

  pub valid_slot : (place : ℕ) → is_valid cells.validity place ≡ true → layout_slot column.layout place ≡ coded cells (element_at (byte_width cells.index) cells.values place)
  valid_slot place valid = ap (λ (known : Layout). layout_slot known place) is ∙ where_some cells.validity (led_value cells) place valid

  null_slot : (place : ℕ) → is_valid cells.validity place ≡ false → layout_slot column.layout place ≡ Null
  null_slot place null = ap (λ (known : Layout). layout_slot known place) is ∙ where_null cells.validity (led_value cells) place null

  -- from the first valid slot on
  pub begun : (start : ℕ) → IsFirstValid cells.validity column.first behind start →
      ends_with (with_value None (slot_of column (start - column.first))) slot (start + 1) behind ≡ ends_of (values_of column)
  begun start found =
      let nulls : ends_with None slot column.first behind ≡ ends_with None slot start behind = rw is (found.nulls (led_value cells)) in
      ap (λ (v : Value). ends_with (with_value None v) slot (start + 1) behind) (slot_at start found.low)
      ∙ sym (pass_more None slot start behind found.high) ∙ sym nulls ∙ column_pass column

  -- with the value of one slot more
  pub looked : (ends : Option (Value × Value)) (place : ℕ) → column.first ≤ place → place < behind → ends_with ends slot place behind ≡ ends_of (values_of column) →
      ends_with (with_value ends (slot_of column (place - column.first))) slot (place + 1) behind ≡ ends_of (values_of column)
  looked ends place low high so_far = ap (λ (v : Value). ends_with (with_value ends v) slot (place + 1) behind) (slot_at place low) ∙ sym (pass_more ends slot place behind high) ∙ so_far

  -- past a slot that changes no end
  pub passed : (ends : Option (Value × Value)) (place : ℕ) → place < behind → is_valid cells.validity place ≡ true →
      Stands ends (coded cells (element_at (byte_width cells.index) cells.values place)) → ends_with ends slot place behind ≡ ends_of (values_of column) →
      ends_with ends slot (place + 1) behind ≡ ends_of (values_of column)
  passed ends place high valid stands so_far =
      sym (pass_kept ends slot place behind high (ap (with_value ends) (valid_slot place valid) ∙ stands_kept ends _ stands)) ∙ so_far

  pub passed_null : (ends : Option (Value × Value)) (place : ℕ) → place < behind → is_valid cells.validity place ≡ false → ends_with ends slot place behind ≡ ends_of (values_of column) →
      ends_with ends slot (place + 1) behind ≡ ends_of (values_of column)
  passed_null ends place high null so_far = sym (pass_kept ends slot place behind high (ap (with_value ends) (null_slot place null))) ∙ so_far

  -- the value that was looked at last changes no end
  pub own_stands : (ends : Option (Value × Value)) (place : ℕ) → column.first ≤ place → is_valid cells.validity place ≡ true →
      Stands (with_value ends (slot_of column (place - column.first))) (coded cells (element_at (byte_width cells.index) cells.values place))
  own_stands ends place low valid =
      let v : slot_of column (place - column.first) ≡ coded cells (element_at (byte_width cells.index) cells.values place) = slot_at place low ∙ valid_slot place valid in
      rw v (stands_new ends (coded cells (element_at (byte_width cells.index) cells.values place)))

-- codes whose values change no end, and of a set with one code more
module _ (cells : IndicesAt) (ends : Option (Value × Value)) (code : ℕ) (old new : ℕ → Type 0) (more : (other : ℕ) → new other → (other ≡ code) ⊎ old other)
    (all : (other : ℕ) → old other → Stands ends (coded cells other)) where
  -- where its value was looked at
  pub known_more : (v : Value) → Stands (with_value ends v) (coded cells code) → (other : ℕ) → new other → Stands (with_value ends v) (coded cells other)
  known_more v own other has = elim (more other has) [
    | inl same ↦ subst (λ (z : ℕ). Stands (with_value ends v) (coded cells z)) (sym same) own
    | inr before ↦ stands_more ends v (coded cells other) (all other before)
  ]

  -- where it had changed no end
  pub known_still : Stands ends (coded cells code) → (other : ℕ) → new other → Stands ends (coded cells other)
  known_still own other has = elim (more other has) [
    | inl same ↦ subst (λ (z : ℕ). Stands ends (coded cells z)) (sym same) own
    | inr before ↦ all other before
  ]
