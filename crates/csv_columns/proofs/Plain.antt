-- Columns without a dictionary are a schema.
use Rattle.std.proofs.Common.{◌≡◌, ◌≤◌, ◌||◌, suc, Bool, false, List, [], ◌∷◌, All, None, length, refl, sym, ap₂, arith}
use Rattle.std.specs.List.{list_any}
use Rattle.std.proofs.lemmas.Option.{none-some}
use Rattle.scan_base.specs.Limits.{most_columns}
use Rattle.scan_base.specs.Lists.{repeats}
use Rattle.arrow_types.specs.declared.data_type.DataType.{DataType}
use Rattle.arrow_types.specs.declared.data_type.DataType.TheVariants as type
use Rattle.arrow_types.specs.declared.schema.Field.{Field}
use Rattle.arrow_types.specs.Schema.{same_dictionary, shares_dictionary, IsField, IsSchema}
use Rattle.arrow_types.specs.DataType.{encoding_of}

abbrev pub ArePlain : List Field → Type 0
ArePlain fields = All (λ (field : Field). encoding_of field.data_type ≡ None) fields

-- a type without a dictionary shares none
shares_none : (one other : DataType) → encoding_of one ≡ None → shares_dictionary one other ≡ false
shares_none (type.Number kind) other plain = refl
shares_none type.Utf8 other plain = refl
shares_none type.Bool other plain = refl
shares_none (type.Dictionary encoding) other plain = absurd (none-some encoding (sym plain))

-- so a column shares none with any
none_same : (field : Field) (fields : List Field) → encoding_of field.data_type ≡ None → list_any (same_dictionary field) fields ≡ false
none_same field [] plain = refl
none_same field (other ∷ fields) plain = ap₂ (λ (a b : Bool). a || b) (shares_none field.data_type other.data_type plain) (none_same field fields plain)

pub none_repeats : (fields : List Field) → ArePlain fields → repeats same_dictionary fields ≡ false
none_repeats [] plain = refl
none_repeats (field ∷ fields) plain =
    ap₂ (λ (a b : Bool). a || b) (none_same field fields (plain 0 field (omega arith))) (none_repeats fields (λ k d low. plain (suc k) d (omega (arith, low))))

-- columns of names, and without a dictionary, are a schema
pub are_schema : (fields : List Field) → 1 ≤ length fields → length fields ≤ most_columns → All IsField fields → ArePlain fields → IsSchema (record { fields = fields })
are_schema fields some few named plain = record { some = some; few = few; fields = named; apart = none_repeats fields plain }
