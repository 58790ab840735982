-- What is printed of a table as lines: a line of its columns' names, and a line for each row. And
-- lines of names.
use Rattle.std.specs.Prelude.{ℕ, ◌==◌, List, [], ◌∷◌, ◌++◌, codes, if◌then◌else◌}
use Rattle.std.specs.List.{flat_map}
use Rattle.number_words.specs.NumberTexts.{literal_text}
use Rattle.scan_base.specs.declared.value.Value.{Value}
use Rattle.arrow_types.specs.declared.schema.Field.{Field}
use Rattle.arrow_types.specs.declared.schema.Schema.{Schema}
use Rattle.row_text.specs.Rows.{Format, Notation, rows_text, type_shown, value_text}

-- a byte of a name: a backslash, a tab, LF and CR are written as a backslash and a letter
abbrev pub escaped_byte : ℕ → List ℕ
escaped_byte byte =
    if byte == 92 then codes "\\\\" else
    if byte == 9 then codes "\\t" else
    if byte == 10 then codes "\\n" else
    if byte == 13 then codes "\\r" else
    byte ∷ []

-- a byte of a text in single quotes, which stand twice in it
abbrev pub quoted_byte : ℕ → List ℕ
quoted_byte byte = if byte == 39 then codes "''" else escaped_byte byte

-- a name
abbrev pub escaped : List ℕ → List ℕ
escaped name = flat_map escaped_byte name

-- a text in single quotes
abbrev pub quoted : List ℕ → List ℕ
quoted text = codes "'" ++ flat_map quoted_byte text ++ codes "'"

-- values
abbrev pub line_notation : Notation
line_notation = record {
  null = codes "NULL";
  truth = λ flag. if flag then codes "TRUE" else codes "FALSE";
  text = quoted;
  number = literal_text;
}

-- lines: a tab between two cells, and LF after the last
abbrev pub line_format : List Field → Format
line_format fields = record {
  start = [];
  between = codes "\t";
  end = codes "\n";
  name = λ number field. escaped field.name;
  value = λ number count. value_text line_notation (type_shown fields number);
}

-- the line of the names, and a line for each row
abbrev pub lines_of : Schema → List (List Value) → List ℕ
lines_of schema rows = rows_text (line_format schema.fields) schema.fields rows

-- a line that has one name
abbrev pub name_line : List ℕ → List ℕ
name_line name = escaped name ++ codes "\n"
