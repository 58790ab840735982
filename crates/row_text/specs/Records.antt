-- What is written of a table as CSV: a record of its columns' names, and a record for each row, as
-- RFC 4180 has them.
use Rattle.std.specs.Prelude.{ℕ, ◌==◌, ◌||◌, ◌&&◌, Bool, List, [], length, codes, if◌then◌else◌}
use Rattle.csv.specs.Writing.{default_writer, needs_quotes, quoted, with_terminator}
use Rattle.csv.specs.declared.parser.Terminator.TheVariants as term
use Rattle.csv.specs.declared.writer.WriterBuilder.{WriterBuilder}
use Rattle.scan_base.specs.declared.value.Value.{Value}
use Rattle.scan_base.specs.Value.{is_null}
use Rattle.arrow_types.specs.declared.data_type.DataType.{DataType}
use Rattle.arrow_types.specs.declared.schema.Field.{Field}
use Rattle.arrow_types.specs.declared.schema.Schema.{Schema}
use Rattle.number_words.specs.NumberTexts.{shown}
use Rattle.row_text.specs.Rows.{Format, Notation, rows_text, type_shown, value_text}

-- the kit's writer of CSV: commas, double quotes that stand twice inside, and records that end with
-- CR and LF
abbrev pub comma_writer : WriterBuilder
comma_writer = with_terminator default_writer term.CRLF

-- whether a text stands in quotes: it needs them, or it is empty, so that it is no null
abbrev pub stands_in_quotes : List ℕ → Bool
stands_in_quotes text = length text == 0 || needs_quotes comma_writer text

-- a text
abbrev pub text_field : List ℕ → List ℕ
text_field text = if stands_in_quotes text then quoted comma_writer text else text

-- values: a null is empty
abbrev pub csv_notation : Notation
csv_notation = record {
  null = [];
  truth = λ flag. if flag then codes "true" else codes "false";
  text = text_field;
  number = shown;
}

-- A field of a record of so many. A null that stands alone is two quotes: many readers pass over an
-- empty line.
abbrev pub field_of : DataType → ℕ → Value → List ℕ
field_of data_type count value =
    if count == 1 && is_null value then codes "\"\"" else value_text csv_notation data_type value

-- records: a comma between two fields, and CR and LF after the last
abbrev pub csv_format : List Field → Format
csv_format fields = record {
  start = [];
  between = codes ",";
  end = codes "\r\n";
  name = λ number field. text_field field.name;
  value = λ number. field_of (type_shown fields number);
}

-- the record of the names, and a record for each row
abbrev pub records_of : Schema → List (List Value) → List ℕ
records_of schema rows = rows_text (csv_format schema.fields) schema.fields rows
