use Rattle.std.proofs.Common.{◌≡◌, ◌⊎◌, inl, inr, All, get_or, sym, subst}
use Rattle.scan_base.specs.declared.value.Value.{Value}
use Rattle.scan_base.specs.declared.value.Value.TheVariants.{Null, Bool as Flag, Int, Text}
use Rattle.scan_base.specs.Value.{IsTextOrNull}
use Rattle.arrow_types.specs.declared.data_type.IntegerType.TheVariants.{Int32}
use Rattle.arrow_types.specs.declared.data_type.DictionaryEncoding.{DictionaryEncoding}
use Rattle.arrow_types.specs.declared.data_type.DataType.TheVariants.{Utf8, Dictionary}
use Rattle.arrays.specs.declared.layout.Layout.TheVariants as layout
use Rattle.arrays.specs.Column.{ColumnAt, IsColumn, values_of}
use Rattle.arrays.specs.Indices.{IndicesAt}
use Rattle.arrays.specs.Texts.{TextsAt}
use Rattle.arrays.specs.TypedLayouts.{IsOfType, IsValueOf, ValuesAreOfTheirType}
use Rattle.column_cases.proofs.columns.coding.codings.Goals as goal

text_if : (value : Value) → IsValueOf Utf8 value → IsTextOrNull value
text_if Null is = tt
text_if (Text bytes) is = is
text_if (Flag flag) is = absurd is
text_if (Int number) is = absurd is

text_led : (encoding : DictionaryEncoding) (value : Value) → IsValueOf (Dictionary encoding) value → IsTextOrNull value
text_led encoding Null is = tt
text_led encoding (Text bytes) is = is
text_led encoding (Flag flag) is = absurd is
text_led encoding (Int number) is = absurd is

any : DictionaryEncoding
any = record { id = 0; index = Int32 }

-- a column that holds texts has no other values
texts_held : ValuesAreOfTheirType → (column : ColumnAt) → IsColumn column →
    ((x : TextsAt) × (column.layout ≡ layout.Texts x)) ⊎ ((x : IndicesAt) × (column.layout ≡ layout.Indices x)) → All IsTextOrNull (values_of column)
texts_held typed column stands (inl texts) =
    λ k d low. text_if (get_or (values_of column) k d) (typed Utf8 column stands (subst (IsOfType Utf8) (sym texts.1) tt) k d low)
texts_held typed column stands (inr indices) =
    λ k d low. text_led any (get_or (values_of column) k d) (typed (Dictionary any) column stands (subst (IsOfType (Dictionary any)) (sym indices.1) tt) k d low)

pub coded_batch-requires-clause-texts : goal.coded_batch-requires-clause-texts
coded_batch-requires-clause-texts c =
    texts_held c.values_are_of_their_type.ensures c.args.column.now c.len-rows.ensures.stands (rw c.layout.ensures.value at c.in-Texts.is)
