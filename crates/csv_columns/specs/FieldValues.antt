-- What a field of a CSV text says in a column.
use Rattle.std.specs.Prelude.{ℕ, ◌==◌, ◌||◌, Bool, true, false, List, length, Option, Some, None}
use Rattle.std.specs.Prelude.{option_map, codes, if◌then◌else◌}
use Rattle.std.specs.Str.{bytes_eq, is_utf8}
use Rattle.scan_base.specs.declared.value.Value.{Value}
use Rattle.scan_base.specs.declared.value.Value.TheVariants.{Null, Bool as Flag, Int, Text}
use Rattle.arrow_types.specs.declared.data_type.DataType.{DataType}
use Rattle.arrow_types.specs.declared.data_type.DataType.TheVariants.{Number, Utf8, Bool as Truth}
use Rattle.arrow_types.specs.declared.data_type.DataType.TheVariants.{Dictionary}
use Rattle.arrow_types.specs.declared.schema.Field.{Field}
use Rattle.number_words.specs.NumberTexts.{number_read}

-- a truth value, as SQL's tools or Python's write it
abbrev pub flag_in : List ℕ → Option Bool
flag_in text =
    if bytes_eq text (codes "true") || bytes_eq text (codes "True") then Some true
    else if bytes_eq text (codes "false") || bytes_eq text (codes "False") then Some false else None

-- what a text says as a value of a type
abbrev pub said_as : DataType → List ℕ → Option Value
said_as (Number kind) text = option_map Int (number_read kind text)
said_as Truth text = option_map Flag (flag_in text)
said_as Utf8 text = Some (Text text)
said_as (Dictionary encoding) text = Some (Text text)

-- what bytes say: nothing where they are not UTF-8
abbrev pub value_in : DataType → List ℕ → Option Value
value_in data_type text = if is_utf8 text then said_as data_type text else None

-- What a field says in a column. One without a byte is a null where the column may have nulls.
abbrev pub cell_in : Field → List ℕ → Option Value
cell_in column text =
    if length text == 0 then (if column.nullable then Some Null else value_in column.data_type text)
    else value_in column.data_type text
