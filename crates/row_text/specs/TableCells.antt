-- What stands in a cell of a table for people, and how wide its columns are.
use Rattle.std.specs.Prelude.{ℕ, ◌+◌, ◌-◌, ◌*◌, ◌==◌, ◌||◌, ◌&&◌, not, nat_lt, Bool, false, List}
use Rattle.std.specs.Prelude.{[], ◌∷◌, ◌++◌, map, length, take, drop, max, min, get_or, codes}
use Rattle.std.specs.Prelude.{chars, if◌then◌else◌, is_none}
use Rattle.std.specs.List.{count_by, flat_map}
use Rattle.unicode_width.specs.Width.{str_width}
use Rattle.scan_base.specs.declared.value.Value.{Value}
use Rattle.scan_base.specs.declared.value.Value.TheVariants.{Null, Text}
use Rattle.arrow_types.specs.declared.data_type.DataType.{DataType}
use Rattle.arrow_types.specs.declared.data_type.DataType.TheVariants.{Number}
use Rattle.arrow_types.specs.declared.schema.Field.{Field}
use Rattle.number_words.specs.NumberTexts.{keyword, shown}
use Rattle.row_text.specs.Rows.{Notation, value_text}
use Rattle.row_text.specs.Lines.{escaped_byte, line_notation}
use Rattle.row_text.specs.declared.shape.Shape.{Shape}

-- ---- what stands in a cell

-- a byte that a line has as a backslash and a letter
abbrev pub is_escaped : ℕ → Bool
is_escaped byte = ((byte == 92) || (byte == 9)) || ((byte == 10) || (byte == 13))

-- any other control byte, which a terminal would obey
abbrev pub is_control : ℕ → Bool
is_control byte = not (is_escaped byte) && (nat_lt byte 32 || (byte == 127))

-- the texts for the control bytes below 16, and for those below 32
abbrev pub low_controls : List ℕ
low_controls =
    codes "\\x00\\x01\\x02\\x03\\x04\\x05\\x06\\x07\\x08\\x09\\x0A\\x0B\\x0C\\x0D\\x0E\\x0F"

abbrev pub high_controls : List ℕ
high_controls =
    codes "\\x10\\x11\\x12\\x13\\x14\\x15\\x16\\x17\\x18\\x19\\x1A\\x1B\\x1C\\x1D\\x1E\\x1F"

-- the text for a control byte
abbrev pub control_text : ℕ → List ℕ
control_text byte =
    if nat_lt byte 16 then take 4 (drop (4 * byte) low_controls) else
    if nat_lt byte 32 then take 4 (drop (4 * (byte - 16)) high_controls) else
    codes "\\x7F"

-- a byte of a name or a text: as in a line, but no control byte is printed
abbrev pub cell_byte : ℕ → List ℕ
cell_byte byte = if is_control byte then control_text byte else escaped_byte byte

-- a name or a text
abbrev pub cell_text : List ℕ → List ℕ
cell_text text = flat_map cell_byte text

-- values: as in a line, but a text and a number stand without quotes
abbrev pub table_notation : Notation
table_notation = record {
  null = line_notation.null;
  truth = line_notation.truth;
  text = cell_text;
  number = shown;
}

-- ---- how wide it is

-- no column is wider than this
abbrev pub most_width : ℕ
most_width = 40

-- how many columns of a terminal a text takes, counted no further than matters; an escape takes one
-- more than its byte, and the text for a control byte three more
abbrev pub text_width : List ℕ → ℕ
text_width text =
    min most_width (str_width false (chars text)) + min most_width (count_by is_escaped text)
    + 3 * min most_width (count_by is_control text)

-- how many a value takes
abbrev pub value_width : DataType → Value → ℕ
value_width _ (Text text) = text_width text
value_width data_type value = length (value_text table_notation data_type value)

-- the greatest of a number and of these
abbrev pub greatest : ℕ → List ℕ → ℕ
greatest n [] = n
greatest n (m ∷ ms) = greatest (max n m) ms

-- the values of a column, by its number
abbrev pub values_of_column : List (List Value) → ℕ → List Value
values_of_column rows number = map (λ row. get_or row number Null) rows

-- how wide a column is: as its name or its widest value, whichever is wider
abbrev pub column_width : Field → List Value → ℕ
column_width field values =
    min most_width (greatest (text_width field.name) (map (value_width field.data_type) values))

-- the same of all columns from one on
abbrev pub widths_from : List Field → ℕ → List (List Value) → List ℕ
widths_from [] number rows = []
widths_from (field ∷ fields) number rows =
    column_width field (values_of_column rows number) ∷ widths_from fields (number + 1) rows

-- ---- cells

-- so many blanks, up to the most
abbrev pub blanks : ℕ → List ℕ
blanks count = take (min most_width count) (codes "                                        ")

-- so many dashes
abbrev pub dashes : ℕ → List ℕ
dashes count = take (min most_width count) (codes "----------------------------------------")

-- numbers stand at the right of their column, but for those whose literals begin with a word
abbrev pub stands_right : DataType → Bool
stands_right (Number kind) = is_none (keyword kind)
stands_right _ = false

-- the blanks before a text that takes so many columns, and those after it
abbrev pub before : Shape → ℕ → List ℕ
before shape taken = if stands_right shape.data_type then blanks (shape.width - taken) else []

abbrev pub behind : Shape → ℕ → List ℕ
behind shape taken = if stands_right shape.data_type then [] else blanks (shape.width - taken)

-- a text that takes so many columns, in the width of its column
abbrev pub padded : Shape → ℕ → List ℕ → List ℕ
padded shape taken text = before shape taken ++ (text ++ behind shape taken)

-- a value
abbrev pub value_cell : Shape → Value → List ℕ
value_cell shape value = padded shape (value_width shape.data_type value)
    (value_text table_notation shape.data_type value)

-- a column's name
abbrev pub name_cell : Shape → List ℕ → List ℕ
name_cell shape name = padded shape (text_width name) (cell_text name)
