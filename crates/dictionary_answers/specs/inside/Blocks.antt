-- Inside: slots of a column that are coded block by block.
use Rattle.std.specs.Prelude.{◌≡◌, ◌≤◌, ℕ, List, map, take}
use Rattle.std.specs.List.{range_with_len}
use Rattle.arrays.specs.Column.{ColumnAt, slot_of}
use Rattle.arrays.specs.Nulls.{null_count}
use Rattle.arrays.specs.Number.{byte_width}
use Rattle.arrays.specs.declared.layout.Layout.TheVariants as layout
use Rattle.dictionary_answers.specs.declared.indices.Block.{Block}
use Rattle.dictionary_answers.specs.inside.CodedTexts.{AreCoded, DistinctTextsAt, coded_texts_at}
use Rattle.dictionary_answers.specs.inside.Coding.{room_of}
use Rattle.dictionary_answers.specs.inside.PackedPlaces.{numbers_in}

-- the first slots of a column are coded
abbrev pub AreCodedTo : ColumnAt → ℕ → DistinctTextsAt → List ℕ → Type 0
AreCodedTo column count found packed =
    AreCoded (map (slot_of column) (range_with_len 0 count)) (room_of found)
    (coded_texts_at found (take count (numbers_in packed)))

-- slots of a column of indices of a width, none of which is null
pub record IsBlock (width : ℕ) (block : Block) : Type 0 where
  pub cells : block.of.now.column.now.layout ≡ layout.Indices block.of.now.cells
  pub wide : byte_width block.of.now.cells.index ≡ width
  pub valid : null_count block.of.now.column.now ≡ 0
  pub rises : block.from ≤ block.to
  pub within : block.to ≤ block.of.now.column.now.len
