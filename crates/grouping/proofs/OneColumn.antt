-- Keys of one column.
use Rattle.std.proofs.Common.{◌≡◌, ◌<◌, ℕ, ◌+◌, true, List, [], ◌∷◌, length, get_or, nat_lt, refl, sym, ap, ◌∙◌, subst, arith}
use Rattle.std.specs.List.{list_all}
use Rattle.scan_base.specs.declared.value.Value.{Value}
use Rattle.scan_base.specs.Predicate.{cell_in}
use Rattle.table_versions.specs.Table.{Row}
use Rattle.arrays.specs.Batch.{AreLong, BatchAt, row_of}
use Rattle.arrays.specs.Column.{ColumnAt, slot_of}
use Rattle.arrays.specs.Layout.{layout_slot}
use Rattle.arrays.specs.Texts.{TextsAt, texts_slot}
use Rattle.arrays.specs.declared.layout.Layout.{Layout}
use Rattle.arrays.specs.declared.layout.Layout.TheVariants.{Texts}
use Rattle.group_slots.specs.declared.slots.Entries.{Entries}
use Rattle.group_slots.specs.declared.slots.IntegerSlots.{IntegerSlots}
use Rattle.group_slots.specs.Slots.{HaveRoom, entry_cell, slot_cell}
use Rattle.group_slots.proofs.Slotted.{cell_slot}
use Rattle.grouping.specs.FoundKeys.{key_in}
use Rattle.grouping.specs.inside.Knowing.{AreEntryKeys, AreKeys, AreTagged}
use Rattle.first_rows.proofs.KeyCells.{key_there}

-- a column of the batch is the one key
pub record IsOnly (keys : List ℕ) (batch : BatchAt) (found : ColumnAt) : Type 0 where
  pub one : length keys ≡ 1
  pub there : get_or keys 0 0 < length batch.columns
  pub is : found ≡ get_or batch.columns (get_or keys 0 0) found
  pub long : AreLong batch.rows batch.columns

-- as it is found among the columns
pub is_only : (keys : List ℕ) (batch : BatchAt) (columns : List ColumnAt) (found : ColumnAt) → length keys ≡ 1 →
    list_all (λ column. nat_lt column (length batch.columns)) keys ≡ true → columns ≡ batch.columns →
    found ≡ get_or columns (get_or keys 0 0) found → AreLong batch.rows columns → IsOnly keys batch found
is_only keys batch columns found one all same is long = record {
  one = one;
  there = key_there keys (length batch.columns) 0 (omega (arith, one)) all;
  is = subst (λ (columns : List ColumnAt). found ≡ get_or columns (get_or keys 0 0) found) same is;
  long = subst (AreLong batch.rows) same long;
}

one_key : (keys : List ℕ) (row : Row) → length keys ≡ 1 → key_in keys row ≡ cell_in row (get_or keys 0 0) ∷ []
one_key (key ∷ []) row one = refl
one_key (key ∷ other ∷ keys) row one = absurd (omega (arith, one))
one_key [] row one = absurd (omega (arith, one))

-- the key of a row is the slot of the one column
one_cell : (keys : List ℕ) (batch : BatchAt) (found : ColumnAt) (row : ℕ) → IsOnly keys batch found →
    key_in keys (row_of batch.columns row) ≡ slot_of found row ∷ []
one_cell keys batch found row only =
    one_key keys (row_of batch.columns row) only.one
    ∙ ap (λ (value : Value). value ∷ []) (cell_slot batch.columns row (get_or keys 0 0) found only.there ∙ ap (λ (c : ColumnAt). slot_of c row) (sym only.is))

-- as many slots as rows
one_long : (keys : List ℕ) (batch : BatchAt) (found : ColumnAt) → IsOnly keys batch found → found.len ≡ batch.rows
one_long keys batch found only = ap (λ (c : ColumnAt). c.len) only.is ∙ only.long (get_or keys 0 0) found only.there

-- its numbers are the keys
pub are_keys : (keys : List ℕ) (batch : BatchAt) (found : ColumnAt) (slots : IntegerSlots) → IsOnly keys batch found →
    HaveRoom slots found.len → ((row : ℕ) → slot_of found row ≡ slot_cell slots row) → AreKeys slots keys batch
are_keys keys batch found slots only room cells = record {
  room = subst (HaveRoom slots) (one_long keys batch found only) room;
  cells = λ row. one_cell keys batch found row only ∙ ap (λ (value : Value). value ∷ []) (cells row);
}

-- the entries to which its indices lead are the keys
pub are_entry_keys : (keys : List ℕ) (batch : BatchAt) (found : ColumnAt) (entries : Entries) → IsOnly keys batch found →
    HaveRoom entries.slots found.len → ((row : ℕ) → slot_of found row ≡ entry_cell entries row) → AreEntryKeys entries keys batch
are_entry_keys keys batch found entries only room cells = record {
  room = subst (HaveRoom entries.slots) (one_long keys batch found only) room;
  cells = λ row. one_cell keys batch found row only ∙ ap (λ (value : Value). value ∷ []) (cells row);
}

-- its texts are the keys
pub are_texts : (keys : List ℕ) (batch : BatchAt) (found : ColumnAt) (cells texts : TextsAt) (first rows : ℕ) → IsOnly keys batch found →
    found.layout ≡ Texts cells → texts ≡ cells → first ≡ found.first → rows ≡ found.len →
    AreTagged rows (λ row. texts_slot texts (first + row)) keys batch
are_texts keys batch found cells texts first rows only layout same_texts same_first same_rows = record {
  many = omega (arith, one_long keys batch found only, same_rows);
  values = λ row low. one_cell keys batch found row only
      ∙ ap (λ (value : Value). value ∷ [])
      (ap (λ (layout : Layout). layout_slot layout (found.first + row)) layout
      ∙ ap (λ (t : TextsAt). texts_slot t (found.first + row)) (sym same_texts)
      ∙ ap (λ (n : ℕ). texts_slot texts (n + row)) (sym same_first));
}
