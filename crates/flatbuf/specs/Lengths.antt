-- How long written blocks are at most, and that they are whole.
use Rattle.std.specs.Prelude.{ℕ, ◌+◌, ◌*◌, ◌≤◌, List, length, map}
use Rattle.flatbuf.specs.Block.{Part, IsWhole, Given, Offset, AreWhole, children, table_part}
use Rattle.flatbuf.specs.Block.{text_part, structs_part, tables_part}

-- a table of whole blocks is whole, and takes at most so much next to the blocks that it leads to
abbrev pub TableIsWhole : Type 0
TableIsWhole = (slots : List Given) → AreWhole slots → IsWhole (table_part slots)

abbrev pub TableIsShort : Type 0
TableIsShort = (slots : List Given) →
    length (table_part slots).bytes ≤ 20 + 10 * length slots + length (children slots)

-- a text
abbrev pub TextIsWhole : Type 0
TextIsWhole = (text : List ℕ) → IsWhole (text_part text)

abbrev pub TextIsShort : Type 0
TextIsShort = (text : List ℕ) → length (text_part text).bytes ≤ 16 + length text

-- structs of one width
abbrev pub StructsAreWhole : Type 0
StructsAreWhole = (width : ℕ) (structs : List ℕ) → IsWhole (structs_part width structs)

abbrev pub StructsAreShort : Type 0
StructsAreShort =
    (width : ℕ) (structs : List ℕ) → length (structs_part width structs).bytes ≤ 15 + length structs

-- a vector of whole tables is whole, and takes at most so much next to the tables
abbrev pub TablesAreWhole : Type 0
TablesAreWhole = (tables : List Part) → AreWhole (map Offset tables) → IsWhole (tables_part tables)

abbrev pub TablesAreShort : Type 0
TablesAreShort = (tables : List Part) → length (tables_part tables).bytes
    ≤ 15 + 4 * length tables + length (children (map Offset tables))
