use Rattle.std.proofs.Common.{◌≡◌, ℕ, ◌+◌, ◌-◌, All, List, [], ◌∷◌, map, refl, sym, ap, subst, ◌∙◌, arith}
use Rattle.scan_base.specs.Value.{IsTextOrNull}
use Rattle.arrow_types.specs.declared.data_type.DictionaryEncoding.{DictionaryEncoding}
use Rattle.arrow_types.specs.declared.data_type.DataType.{DataType}
use Rattle.arrow_types.specs.declared.data_type.DataType.TheVariants.{Dictionary}
use Rattle.arrow_types.specs.declared.schema.Field.{Field}
use Rattle.arrays.specs.Batch.{BatchAt}
use Rattle.arrays.specs.Column.{ColumnAt, values_of}
use Rattle.dictionary_answers.specs.Answer.{IsCodable, AreCodable}
use Rattle.column_cases.proofs.columns.coding.coded_batch.Goals as goal

-- all slots of a column are the column
whole_cut : (column : ColumnAt) (first len : ℕ) → first ≡ column.first → len ≡ column.len → record column { first = first; len = len } ≡ column
whole_cut column first len f l = rw (f, l) refl

-- a column of texts after one field, which is a dictionary, may be coded
codable : (encoding : DictionaryEncoding) (fields : List Field) (columns : List ColumnAt) (column : ColumnAt) →
    map (λ (field : Field). field.data_type) fields ≡ Dictionary encoding ∷ [] → columns ≡ column ∷ [] → All IsTextOrNull (values_of column) →
    AreCodable fields columns
codable encoding [] columns column is one texts = absurd cc
codable encoding (field ∷ []) columns column is one texts =
    let own : field.data_type ≡ Dictionary encoding = cc in
    subst (AreCodable (field ∷ [])) (sym one) (subst (λ (t : DataType). IsCodable t column) (sym own) texts, tt)
codable encoding (field ∷ (more ∷ fields)) columns column is one texts = absurd cc

pub code_batch-requires-clause-codable : goal.code_batch-requires-clause-codable
code_batch-requires-clause-codable c =
    let column = c.args.column.now in
    let own = c.in_ok-own.own in
    let one : c.new-batch.result.columns ≡ own ∷ [] = ap (λ (b : BatchAt). b.columns) c.new-batch.ensures ∙ c.in_ok-vec.ensures.items in
    let same : own ≡ column =
    c.in_ok-own.ensures ∙ whole_cut column (column.first + 0) (c.len.result - 0) (omega arith) (omega (arith, c.len.ensures.count)) in
    codable _ c.in_ok-schema.schema.fields c.new-batch.result.columns own c.in_ok-schema.ensures one
    (subst (λ (some : ColumnAt). All IsTextOrNull (values_of some)) (sym same) c.requires.texts)
