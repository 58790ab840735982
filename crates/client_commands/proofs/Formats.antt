-- What is written of rows in each format.
use Rattle.std.proofs.Common.{◌≡◌, ◌&&◌, ℕ, ◌+◌, Bool, List, [], ◌∷◌, ◌++◌, Option, refl, ap, ◌∙◌, append_assoc}
use Rattle.arrow_types.specs.declared.schema.Schema.{Schema}
use Rattle.arrow_types.specs.declared.data_type.DataType.{DataType}
use Rattle.arrow_types.specs.declared.data_type.DataType.TheVariants.{Dictionary}
use Rattle.arrow_types.specs.declared.schema.Field.{Field}
use Rattle.arrow_types.specs.Answer.{answered_at}
use Rattle.ipc_batch.specs.SaidRows.{Rows}
use Rattle.scan_base.specs.Value.{same_flag}
use Rattle.table_versions.specs.Table.{same_field, same_fields, same_name, same_type}
use Rattle.row_stream.specs.Stream.{numbered_from}
use Rattle.command_line.specs.declared.request.Format.{Format}
use Rattle.command_line.specs.declared.request.Format.TheVariants as form
use Rattle.client_commands.specs.Formats.{BreaksRows, SaysBroken, SaysFront}
use Rattle.client_commands.specs.inside.Writers.{written_schema}

-- ---- more rows

front_before : (format : Format) (schema : Schema) (all rows others : Rows) (bytes : List ℕ) → all ≡ rows ++ others → SaysFront format schema rows bytes → SaysFront format schema all bytes
front_before format schema all rows others bytes splits says = record {
  front = says.front;
  rest = says.rest ++ others;
  splits = splits ∙ ap (λ (l : Rows). l ++ others) says.splits ∙ append_assoc says.front says.rest others;
  says = says.says;
}

broken_before : (format : Format) (schema : Schema) (all rows others : Rows) (bytes : List ℕ) → all ≡ rows ++ others → SaysBroken format schema rows bytes → SaysBroken format schema all bytes
broken_before form.Lines schema all rows others bytes splits is = front_before form.Lines schema all rows others bytes splits is
broken_before form.Csv schema all rows others bytes splits is = front_before form.Csv schema all rows others bytes splits is
broken_before form.Table schema all rows others bytes splits is = is
broken_before form.Arrow schema all rows others bytes splits is =
    let says = is.says in record {
      stream = is.stream;
      says = record {
        some = says.some;
        others = says.others ++ others;
        splits = splits ∙ ap (λ (l : Rows). l ++ others) says.splits ∙ append_assoc says.some says.others others;
        rest = says.rest;
        says = says.says;
      };
      ends = is.ends;
      refused = is.refused;
    }

-- what breaks off among rows breaks off among more rows, too
pub breaks_before : (format : Format) (schema : Schema) (all rows others : Rows) (a b : Option (List ℕ)) (failed failed' : ℕ) → all ≡ rows ++ others
    → BreaksRows format schema rows a b failed failed' → BreaksRows format schema all a b failed failed'
breaks_before format schema all rows others a b failed failed' splits (bytes, is, wrote) = (bytes, broken_before format schema all rows others bytes splits is, wrote)

-- ---- the columns that are written

same_answered : (number : ℕ) (t other : DataType) → same_type (answered_at number t) other ≡ same_type t other
same_answered number (Dictionary encoding) (Dictionary other) = refl
same_answered number _ _ = refl

-- with other ids of their dictionaries they are the same columns
same_numbered : (number : ℕ) (fields others : List Field) → same_fields (numbered_from number fields) others ≡ same_fields fields others
same_numbered number [] [] = refl
same_numbered number [] (other ∷ others) = refl
same_numbered number (field ∷ fields) [] = refl
same_numbered number (field ∷ fields) (other ∷ others) =
    ap (λ (b : Bool). (same_name field other && b && same_flag field.nullable other.nullable) && same_fields (numbered_from (number + 1) fields) others) (same_answered number field.data_type other.data_type)
    ∙ ap (λ (b : Bool). same_field field other && b) (same_numbered (number + 1) fields others)

-- in each format they are those of the schema
pub same_written : (format : Format) (schema other : Schema) → same_fields (written_schema format schema).fields other.fields ≡ same_fields schema.fields other.fields
same_written form.Lines schema other = refl
same_written form.Csv schema other = refl
same_written form.Table schema other = refl
same_written form.Arrow schema other = same_numbered 0 schema.fields other.fields
