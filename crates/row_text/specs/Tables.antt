-- What is printed of a table for people: its columns, aligned between bars, and how many rows it
-- has.
use Rattle.std.specs.Prelude.{ℕ, ◌+◌, ◌-◌, List}
use Rattle.std.specs.Prelude.{◌++◌, length, get_or, codes}
use Rattle.std.specs.List.{flat_map}
use Rattle.std.specs.Fmt.{decimal}
use Rattle.scan_base.specs.declared.value.Value.{Value}
use Rattle.arrow_types.specs.declared.schema.Field.{Field}
use Rattle.arrow_types.specs.declared.schema.Schema.{Schema}
use Rattle.row_text.specs.Rows.{Format, names_row, type_shown, values_row}
use Rattle.row_text.specs.declared.shape.Shape.{Shape}
use Rattle.row_text.specs.TableCells.{widths_from, dashes, value_cell, name_cell}

-- the column of a number: its type and its width
abbrev pub shape_of : List Field → List ℕ → ℕ → Shape
shape_of fields widths number =
    record { data_type = type_shown fields number; width = get_or widths number 0 }

-- rows in columns of these widths: a bar before each cell and after the last
abbrev pub table_format : List Field → List ℕ → Format
table_format fields widths = record {
  start = codes "| ";
  between = codes " | ";
  end = codes " |\n";
  name = λ number field. name_cell (shape_of fields widths number) field.name;
  value = λ number count. value_cell (shape_of fields widths number);
}

-- dashes under a name
abbrev pub rule_cell : ℕ → List ℕ
rule_cell width = codes "|-" ++ (dashes width ++ codes "-")

-- the line of them
abbrev pub rule_line : List ℕ → List ℕ
rule_line widths = flat_map rule_cell widths ++ codes "|\n"

-- how many rows there are
abbrev pub count_line : ℕ → List ℕ
count_line rows = decimal rows ++ codes " rows\n"

-- the names, dashes, the rows and their count, in columns of these widths
abbrev pub table_by : List Field → List ℕ → List (List Value) → List ℕ
table_by fields widths rows =
    names_row (table_format fields widths) fields
    ++ (rule_line widths
    ++ (flat_map (values_row (table_format fields widths)) rows ++ count_line (length rows)))

-- all that is printed of a table
abbrev pub table_of : Schema → List (List Value) → List ℕ
table_of schema rows = table_by schema.fields (widths_from schema.fields 0 rows) rows
