-- What the format has room for: no buffer has 2 ^ 31 bytes, and a vtable's sizes are numbers of 2
-- bytes.
use Rattle.std.specs.Prelude.{◌≡◌, ℕ, ◌+◌, ◌*◌, ◌%◌, ◌^◌, ◌<◌, List, length}
use Rattle.flatbuf.specs.Block.{Part, Given, table_part, tables_part}

-- A table and what it leads to. The table's size, 8 bytes and 8 more for each slot, is the greater
-- of the two that its vtable says.
pub record FitsTable (slots : List Given) : Type 0 where
  pub few : 8 + 8 * length slots < 2 ^ 16
  pub small : length (table_part slots).bytes < 2 ^ 31

-- a vector of tables and the tables
abbrev pub FitsTables : List Part → Type 0
FitsTables tables = length (tables_part tables).bytes < 2 ^ 31

-- a whole number of structs of this width, as many as a count of 4 bytes says
pub record FitsStructs (width : ℕ) (structs : List ℕ) : Type 0 where
  pub some : 0 < width
  pub whole : length structs % width ≡ 0
  pub small : length structs < 2 ^ 32
