-- Packed elements, read again, and the slots of a layout that is read.
use Rattle.std.proofs.Common.{◌≡◌, ℕ, ◌+◌, ◌-◌, ◌*◌, ◌<◌, List, map, drop, ap, ◌∙◌, arith}
use Rattle.std.specs.List.{range_with_len}
use Rattle.std.proofs.Math.Nat.{mul-le-mul_left}
use Rattle.byteorder.specs.Endian.{little_from}
use Rattle.byteorder.specs.Numbers.{little_from-take}
use Rattle.bitmap.proofs.Masks.{little_drop}
use Rattle.arrays.specs.declared.layout.Layout.{Layout}
use Rattle.arrays.specs.Layout.{layout_slot, layout_count}
use Rattle.arrays.specs.Number.{element_at}
use Rattle.arrays.specs.Column.{ColumnAt, slot_of, values_of, whole}
use Rattle.arrays.specs.WrittenSlots.{elements}
use Rattle.array_buffers.proofs.Packed.{map_same}

-- an element of some elements is one of all
pub element_again : (width : ℕ) (values : List ℕ) (first len j : ℕ) → j < len → element_at width (elements width values first len) j ≡ element_at width values (first + j)
unfolding element_at
element_again width values first len j low =
    let room = mul-le-mul_left width low in
    let e : width * first + width * j ≡ width * (first + j) = omega arith in
    little_from-take (width * j) width (width * (first + len) - width * first) (drop (width * first) values) (omega (arith, room))
    ∙ little_drop (width * first) (width * j) width values ∙ ap (λ (p : ℕ). little_from p width values) e

-- a layout whose slots are those of a column has its values
pub values_again : (column : ColumnAt) (read : Layout) → layout_count read ≡ column.len → ((j : ℕ) → j < column.len → layout_slot read j ≡ slot_of column j) → values_of (whole read) ≡ values_of column
values_again column read count same =
    ap (λ (n : ℕ). map (slot_of (whole read)) (range_with_len 0 n)) count
    ∙ map_same (slot_of (whole read)) (slot_of column) 0 column.len (λ j first low. let z : 0 + j ≡ j = omega arith in ap (layout_slot read) z ∙ same j (omega arith))
