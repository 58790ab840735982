-- The list of tables, as a table.
use Rattle.std.specs.Prelude.{Bool, true, false, [], ◌∷◌, map, codes}
use Rattle.scan_base.specs.declared.value.Value.TheVariants.{Null, Text}
use Rattle.arrow_types.specs.declared.data_type.DataType.TheVariants.{Utf8}
use Rattle.arrow_types.specs.declared.schema.Field.{Field}
use Rattle.arrow_types.specs.declared.schema.Schema.{Schema}
use Rattle.table_versions.specs.Table.{Name, Row, Table}
use Rattle.table_versions.specs.Database.{Database}

-- a column of texts
abbrev pub text_column : Name → Bool → Field
text_column name nullable = record { name = name; nullable = nullable; data_type = Utf8 }

-- the columns of the list
abbrev pub tables_schema : Schema
tables_schema = record {
  fields = text_column (codes "catalog_name") true
      ∷ text_column (codes "db_schema_name") true
      ∷ text_column (codes "table_name") false
      ∷ text_column (codes "table_type") false
      ∷ [];
}

-- the row of a table: it is in no catalog and in no schema
abbrev pub table_row : Name → Row
table_row name = Null ∷ Null ∷ Text name ∷ Text (codes "TABLE") ∷ []

-- one row for each table, in byte order of the names, as the database has them
abbrev pub tables_listed : Database → Table
tables_listed database =
    record { schema = tables_schema; rows = map (λ entry. table_row entry.0) database }
