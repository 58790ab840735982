-- Ends over slots, one slot after another.
use Rattle.std.proofs.Common.{◌≡◌, ◌<◌, ◌≤◌, ◌+◌, ◌-◌, ℕ, zero, suc, Bool, true, false, List, ◌∷◌, fold, map, Option, None, inl, inr, refl, sym, ap, subst, ◌∙◌, arith}
use Rattle.std.proofs.lemmas.Bool.{cases_Bool}
use Rattle.std.specs.List.{range_with_len}
use Rattle.scan_base.specs.declared.value.Value.{Value}
use Rattle.scan_base.specs.declared.value.Value.TheVariants.{Null}
use Rattle.arrays.specs.Column.{ColumnAt, values_of}
use Rattle.arrays.specs.Layout.{layout_slot}
use Rattle.arrays.specs.Validity.{is_valid, where_valid}
use Rattle.batch_stats.specs.Stats.{ends_of, with_value}
use Rattle.arrays.specs.declared.layout.Layout.{Layout}
use Rattle.batch_stats.specs.declared.stats.Stats.{Stats}
use Rattle.batch_stats.specs.declared.stats.Stats.TheVariants.{Nulls}
use Rattle.batch_stats.specs.HeldStats.{IsStatsOf}
use Rattle.batch_stats.specs.inside.Slots.{ends_with, AreNulls, IsFirstValid}
use Rattle.batch_stats.proofs.Standing.{stands_kept, Stands}

-- with one slot more
pub pass_more : (ends : Option (Value × Value)) (slot : ℕ → Value) (from to : ℕ) → from < to → ends_with ends slot from to ≡ ends_with (with_value ends (slot from)) slot (from + 1) to
pass_more ends slot from to low = let e : to - from ≡ suc (to - (from + 1)) = omega arith in rw e refl

pub pass_end : (ends : Option (Value × Value)) (slot : ℕ → Value) (from to : ℕ) → to ≤ from → ends_with ends slot from to ≡ ends
pass_end ends slot from to past = let e : to - from ≡ 0 = omega arith in rw e refl

-- a slot that changes no end
pub pass_kept : (ends : Option (Value × Value)) (slot : ℕ → Value) (from to : ℕ) → from < to → with_value ends (slot from) ≡ ends → ends_with ends slot from to ≡ ends_with ends slot (from + 1) to
pass_kept ends slot from to low same = pass_more ends slot from to low ∙ ap (λ e. ends_with e slot (from + 1) to) same

-- of the same values
same_slots : (slot other : ℕ → Value) (from n : ℕ) → ((place : ℕ) → from ≤ place → place < from + n → slot place ≡ other place) →
    map slot (range_with_len from n) ≡ map other (range_with_len from n)
same_slots slot other from zero same = refl
same_slots slot other from (suc n) same =
    ap (λ v. v ∷ map slot (range_with_len (from + 1) n)) (same from (omega arith) (omega arith))
    ∙ ap (λ vs. other from ∷ vs) (same_slots slot other (from + 1) n (λ place low high. same place (omega arith) (omega arith)))

pub pass_same : (ends : Option (Value × Value)) (slot other : ℕ → Value) (from to : ℕ) → ((place : ℕ) → from ≤ place → place < to → slot place ≡ other place) →
    ends_with ends slot from to ≡ ends_with ends other from to
pass_same ends slot other from to same = ap (fold with_value ends) (same_slots slot other from (to - from) (λ place low high. same place low (omega arith)))

-- values that change no end
pub pass_stand : (ends : Option (Value × Value)) (slot : ℕ → Value) (from n : ℕ) → ((place : ℕ) → from ≤ place → place < from + n → Stands ends (slot place)) →
    fold with_value ends (map slot (range_with_len from n)) ≡ ends
pass_stand ends slot from zero all = refl
pass_stand ends slot from (suc n) all =
    ap (λ e. fold with_value e (map slot (range_with_len (from + 1) n))) (stands_kept ends (slot from) (all from (omega arith) (omega arith)))
    ∙ pass_stand ends slot (from + 1) n (λ place low high. all place (omega arith) (omega arith))

-- the same of values of which each changes no end by itself
kept_all : (ends : Option (Value × Value)) (slot : ℕ → Value) (from n : ℕ) → ((place : ℕ) → from ≤ place → place < from + n → with_value ends (slot place) ≡ ends) →
    fold with_value ends (map slot (range_with_len from n)) ≡ ends
kept_all ends slot from zero all = refl
kept_all ends slot from (suc n) all =
    ap (λ e. fold with_value e (map slot (range_with_len (from + 1) n))) (all from (omega arith) (omega arith))
    ∙ kept_all ends slot (from + 1) n (λ place low high. all place (omega arith) (omega arith))

-- of two parts
pub pass_parts : (ends : Option (Value × Value)) (slot : ℕ → Value) (from n to : ℕ) → from + n ≤ to →
    ends_with ends slot from to ≡ ends_with (ends_with ends slot from (from + n)) slot (from + n) to
pass_parts ends slot from zero to within =
    let e : from + 0 ≡ from = omega arith in
    rw e (ap (λ x. ends_with x slot from to) (sym (pass_end ends slot from from (omega arith))))
pass_parts ends slot from (suc n) to within =
    let e : from + suc n ≡ from + 1 + n = omega arith in
    rw e (pass_more ends slot from to (omega arith)
    ∙ pass_parts (with_value ends (slot from)) slot (from + 1) n to (omega arith)
    ∙ ap (λ x. ends_with x slot (from + 1 + n) to) (sym (pass_more ends slot from (from + 1 + n) (omega arith))))

-- ---- nulls by bits

pub where_null : (validity : Option (List Bool)) (value : ℕ → Value) (place : ℕ) → is_valid validity place ≡ false → where_valid validity value place ≡ Null
where_null validity value place null = rw null refl

pub where_some : (validity : Option (List Bool)) (value : ℕ → Value) (place : ℕ) → is_valid validity place ≡ true → where_valid validity value place ≡ value place
where_some validity value place valid = rw valid refl

pub pass_null : (ends : Option (Value × Value)) (validity : Option (List Bool)) (value : ℕ → Value) (from to : ℕ) → from < to → is_valid validity from ≡ false →
    ends_with ends (where_valid validity value) from to ≡ ends_with ends (where_valid validity value) (from + 1) to
pass_null ends validity value from to low null = pass_kept ends (where_valid validity value) from to low (ap (with_value ends) (where_null validity value from null))

pub pass_valid : (ends : Option (Value × Value)) (validity : Option (List Bool)) (value : ℕ → Value) (from to : ℕ) → from < to → is_valid validity from ≡ true →
    ends_with ends (where_valid validity value) from to ≡ ends_with (with_value ends (value from)) (where_valid validity value) (from + 1) to
pass_valid ends validity value from to low valid =
    pass_more ends (where_valid validity value) from to low ∙ ap (λ v. ends_with (with_value ends v) (where_valid validity value) (from + 1) to) (where_some validity value from valid)

-- slots whose values change no end, whichever of them are null
pub pass_inside : (ends : Option (Value × Value)) (validity : Option (List Bool)) (value : ℕ → Value) (from to : ℕ) →
    ((place : ℕ) → from ≤ place → place < to → with_value ends (value place) ≡ ends) → ends_with ends (where_valid validity value) from to ≡ ends
pass_inside ends validity value from to all =
    kept_all ends (where_valid validity value) from (to - from) (λ place low high. elim (cases_Bool (is_valid validity place)) [
      | inl valid ↦ ap (with_value ends) (where_some validity value place valid) ∙ all place low (omega arith)
      | inr null ↦ ap (with_value ends) (where_null validity value place null)
    ])

-- ---- all slots of a column

moved_slots : (slot : ℕ → Value) (first a n : ℕ) → map (λ (j : ℕ). slot (first + j)) (range_with_len a n) ≡ map slot (range_with_len (first + a) n)
moved_slots slot first a zero = refl
moved_slots slot first a (suc n) =
    let e : first + (a + 1) ≡ first + a + 1 = omega arith in
    ap (λ vs. slot (first + a) ∷ vs) (moved_slots slot first (a + 1) n ∙ ap (λ (k : ℕ). map slot (range_with_len k n)) e)

pub column_pass : (column : ColumnAt) → ends_with None (layout_slot column.layout) column.first (column.first + column.len) ≡ ends_of (values_of column)
column_pass column =
    let n : column.first + column.len - column.first ≡ column.len = omega arith in
    let a : column.first + 0 ≡ column.first = omega arith in
    rw n (sym (ap (fold with_value None) (moved_slots (layout_slot column.layout) column.first 0 column.len ∙ ap (λ (k : ℕ). map (layout_slot column.layout) (range_with_len k column.len)) a)))

-- where no slot is valid, there are no ends
pub nulls_are : (column : ColumnAt) (validity : Option (List Bool)) (value : ℕ → Value) → ((place : ℕ) → layout_slot column.layout place ≡ where_valid validity value place) →
    AreNulls validity column.first (column.first + column.len) → IsStatsOf column Nulls
nulls_are column validity value same nulls = record {
  ends = sym (nulls value) ∙ sym (pass_same None (layout_slot column.layout) (where_valid validity value) column.first (column.first + column.len) (λ place low high. same place)) ∙ column_pass column;
  slots = tt;
}

-- the statistics of slots are those of the column that has them
pub column_is : (column : ColumnAt) (known : Layout) (first len : ℕ) → known ≡ column.layout → first ≡ column.first → len ≡ column.len → (stats : Stats) →
    IsStatsOf (record { layout = known; first = first; len = len }) stats → IsStatsOf column stats
column_is column known first len same_layout same_first same_len stats is =
    subst (λ (n : ℕ). IsStatsOf (record { layout = column.layout; first = column.first; len = n }) stats) same_len
    (subst (λ (n : ℕ). IsStatsOf (record { layout = column.layout; first = n; len = len }) stats) same_first
    (subst (λ (k : Layout). IsStatsOf (record { layout = k; first = first; len = len }) stats) same_layout is))

-- from the first valid slot of a column on
pub from_first : (column : ColumnAt) (validity other : Option (List Bool)) (value : ℕ → Value) (start : ℕ) → other ≡ validity →
    ((place : ℕ) → layout_slot column.layout place ≡ where_valid validity value place) → IsFirstValid other column.first (column.first + column.len) start →
    ends_with (with_value None (value start)) (where_valid validity value) (start + 1) (column.first + column.len) ≡ ends_of (values_of column)
from_first column validity other value start same slots is =
    let found : IsFirstValid validity column.first (column.first + column.len) start =
    subst (λ (v : Option (List Bool)). IsFirstValid v column.first (column.first + column.len) start) same is in
    sym (pass_valid None validity value start (column.first + column.len) found.high found.valid)
    ∙ sym (found.nulls value)
    ∙ sym (pass_same None (layout_slot column.layout) (where_valid validity value) column.first (column.first + column.len) (λ place low high. slots place))
    ∙ column_pass column
