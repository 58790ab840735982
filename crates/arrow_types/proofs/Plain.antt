-- The laws of columns without their dictionaries.
use Rattle.std.proofs.Common.{◌≡◌, false, List, [], ◌∷◌, map, None, refl, arith, get_or}
use Rattle.std.specs.List.{list_any}
use Rattle.std.proofs.lemmas.List.{length-map}
use Rattle.std.proofs.lemmas.List.Elements.{All-map}
use Rattle.scan_base.specs.Lists.{repeats}
use Rattle.arrow_types.specs.declared.data_type.DataType.{DataType}
use Rattle.arrow_types.specs.declared.data_type.DataType.TheVariants.{Number, Utf8, Bool as Flags, Dictionary}
use Rattle.arrow_types.specs.declared.schema.Field.{Field}
use Rattle.arrow_types.specs.Schema.{same_dictionary, shares_dictionary, IsType, IsField}
use Rattle.arrow_types.specs.DataType.{encoding_of}
use Rattle.arrow_types.specs.Answer.{copied_type, plain_field, PlainIsSchema, PlainHasNone, PlainStays}

plain : (t : DataType) → encoding_of (copied_type t) ≡ None
plain (Number kind) = refl
plain Utf8 = refl
plain Flags = refl
plain (Dictionary encoding) = refl

typed : (t : DataType) → IsType t → IsType (copied_type t)
typed (Number kind) is = is
typed Utf8 is = tt
typed Flags is = tt
typed (Dictionary encoding) is = tt

once : (t : DataType) → copied_type (copied_type t) ≡ copied_type t
once (Number kind) = refl
once Utf8 = refl
once Flags = refl
once (Dictionary encoding) = refl

unshared : (t other : DataType) → shares_dictionary (copied_type t) other ≡ false
unshared (Number kind) other = refl
unshared Utf8 other = refl
unshared Flags other = refl
unshared (Dictionary encoding) other = refl

none_shared : (field : Field) (others : List Field) → list_any (same_dictionary (plain_field field)) others ≡ false
none_shared field [] = refl
none_shared field (other ∷ others) = rw (unshared field.data_type other.data_type, none_shared field others) refl

apart : (fields : List Field) → repeats same_dictionary (map plain_field fields) ≡ false
apart [] = refl
apart (field ∷ fields) = rw (none_shared field (map plain_field fields), apart fields) refl

pub plain_is_schema : PlainIsSchema
plain_is_schema schema is =
    let count = length-map schema.fields plain_field in
    let some = is.some in
    let few = is.few in
    record {
      some = omega arith;
      few = omega arith;
      fields = All-map IsField plain_field schema.fields (λ k d lt. (let field = is.fields k d lt in record { named = field.named; typed = typed (get_or schema.fields k d).data_type field.typed }));
      apart = apart schema.fields;
    }

pub plain_has_none : PlainHasNone
plain_has_none schema = All-map (λ (field : Field). encoding_of field.data_type ≡ None) plain_field schema.fields (λ k d lt. plain (get_or schema.fields k d).data_type)

fields_once : (fields : List Field) → map plain_field (map plain_field fields) ≡ map plain_field fields
fields_once [] = refl
fields_once (field ∷ fields) = rw (once field.data_type, fields_once fields) refl

pub plain_stays : PlainStays
plain_stays schema = rw (fields_once schema.fields) refl
