-- Bits that say which rows of a column have a value.
use Rattle.std.proofs.Common.{◌≡◌, ◌≤◌, ◌<◌, ◌+◌, ◌^◌, ℕ, Bool, true, false, not, List, length, get_or, refl, sym, ap, ◌∙◌, arith}
use Rattle.scan_base.specs.declared.value.Value.{Value}
use Rattle.scan_base.specs.declared.value.Value.TheVariants.{Null, Bool as Flag, Int, Text}
use Rattle.scan_base.specs.Predicate.{cell_in}
use Rattle.scan_base.specs.Value.{is_null}
use Rattle.arrays.specs.Batch.{BatchAt, row_of}
use Rattle.arrays.specs.Column.{ColumnAt, IsColumn}
use Rattle.arrays.specs.Layout.{layout_count, layout_slot}
use Rattle.arrays.specs.Nulls.{AreAt}
use Rattle.arrays.specs.declared.nulls.Nulls.{Nulls}
use Rattle.arrays.specs.declared.nulls.Nulls.TheVariants.{AtZeros}
use Rattle.group_slots.specs.declared.counts.ValidBits.{ValidBits}
use Rattle.group_slots.specs.HeldTallies.{count_tally}
use Rattle.group_slots.specs.Tallies.{counted}
use Rattle.group_slots.specs.ValidBits.{AreValid}
use Rattle.group_slots.proofs.Slotted.{cell_slot}

pub one_when : (value : Value) → is_null value ≡ false → counted (count_tally 0) value ≡ count_tally 1
one_when Null e = cc
one_when (Flag flag) e = refl
one_when (Int number) e = refl
one_when (Text text) e = refl

pub none_when : (value : Value) → is_null value ≡ true → counted (count_tally 0) value ≡ count_tally 0
none_when Null e = refl
none_when (Flag flag) e = cc
none_when (Int number) e = cc
none_when (Text text) e = cc

-- the bits at the zeros of which a column's slots are null
pub are_valid : (valid : ValidBits) (batch : BatchAt) (key : ℕ) (d : ColumnAt) → key < length batch.columns → (get_or batch.columns key d).len ≡ batch.rows →
    IsColumn (get_or batch.columns key d) → valid.first ≡ (get_or batch.columns key d).first →
    AreAt (AtZeros valid.bits) (layout_count (get_or batch.columns key d).layout) (layout_slot (get_or batch.columns key d).layout) → AreValid valid key batch
are_valid valid batch key d there long stands first at =
    let column = get_or batch.columns key d in
    record {
      room = omega (arith, at.0, stands.within, long, first);
      small = omega (arith, stands.small, long, first);
      bits = λ row low.
          ap is_null (cell_slot batch.columns row key d there)
          ∙ ap (λ (n : ℕ). is_null (layout_slot column.layout (n + row))) (sym first)
          ∙ at.1 (valid.first + row) (omega (arith, stands.within, long, first, low));
    }
