use Rattle.std.proofs.Common.{◌≡◌, ◌<◌, ℕ, false, get_or}
use Rattle.arrays.specs.Nulls.{null_count}
use Rattle.arrays.specs.Column.{ColumnAt, IsColumn}
use Rattle.array_select.specs.inside.GatheredMany.{columns_of}
use Rattle.array_select.proofs.many_places.SlotPlaces.have_nulls.Given as goal

abbrev pub invariant-loop-column : goal.invariant-loop-column
invariant-loop-column l = record {
  nulls : l.nulls ≡ false → (k : ℕ) (other : ColumnAt) → k < l.column-index → null_count (get_or (columns_of l.self) k other) ≡ 0;
  stand : (k : ℕ) (other : ColumnAt) → k < l.column-index → IsColumn (get_or (columns_of l.self) k other);
}
