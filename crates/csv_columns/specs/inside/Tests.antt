-- Inside: which types take the fields of columns so far.
use Rattle.std.specs.Prelude.{◌≡◌, ◌<◌, ℕ, Bool as Truth, true, false, List, [], length, drop, map}
use Rattle.std.specs.Prelude.{get_or}
use Rattle.std.specs.List.{list_any}
use Rattle.arrow_types.specs.declared.data_type.DataType.TheVariants.{Number, Bool}
use Rattle.number_words.specs.NumberTexts.{types_tried}
use Rattle.csv_columns.specs.declared.type_candidates.TypeCandidates.{TypeCandidates}
use Rattle.csv_columns.specs.FittingColumns.{column_of, is_empty, takes_all}

-- these fields were seen of a column
pub record HasSeen (seen : TypeCandidates) (fields : List (List ℕ)) : Type 0 where
  pub flag : seen.flag ≡ takes_all Bool fields
  pub numbers : seen.numbers ≡ map (λ kind. takes_all (Number kind) fields) types_tried
  pub empty : seen.empty ≡ list_any is_empty fields

-- of each column those of these records
abbrev pub HaveSeen : List TypeCandidates → List (List (List ℕ)) → Type 0
HaveSeen all records =
    (k : ℕ) (d : TypeCandidates) → k < length all → HasSeen (get_or all k d) (column_of k records)

-- a record was passed over, and the others are left; or there was none
abbrev pub PassesOne : Truth → List (List (List ℕ)) → List (List (List ℕ)) → Type 0
PassesOne true old new = new ≡ drop 1 old
PassesOne false old new = old ≡ []
