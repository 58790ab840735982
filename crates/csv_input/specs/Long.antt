-- Why a wrong record is not told, and why no message is made of the next records.
use Rattle.std.specs.Prelude.{◌≡◌, ◌⊎◌, ◌≤◌, ◌<◌, ◌^◌, ℕ, List, [], ◌++◌, length, get_or, Option}
use Rattle.std.specs.Prelude.{Some, None}
use Rattle.std.specs.List.{flat_map}
use Rattle.scan_base.specs.declared.fault.Fault.{Fault}
use Rattle.scan_base.specs.declared.fault.Fault.TheVariants.{LimitReached, OutOfMemory}
use Rattle.scan_base.specs.declared.value.Value.{Value}
use Rattle.arrow_types.specs.declared.schema.Field.{Field}
use Rattle.arrays.specs.Batch.{BatchAt, rows_of}
use Rattle.arrays.specs.TypedLayouts.{AreOfTypes}
use Rattle.arrays.specs.WrittenSlots.{text_bytes}
use Rattle.ipc_batch.specs.WrittenMessages.{body_length}
use Rattle.csv_columns.specs.FieldValues.{cell_in}
use Rattle.csv_input.specs.Rows.{AreRight, AreRows}

-- the first records are more than are counted, and each is right
pub record AreTooMany (columns : List Field) (records : List (List (List ℕ))) : Type 0 where
  pub read : List (List (List ℕ))
  pub left : List (List (List ℕ))
  pub splits : records ≡ read ++ left
  pub many : 2 ^ 63 < length read
  pub right : AreRight columns read

-- why it is not told whether a record is wrong: F12 only where the right ones are too many
abbrev pub WhyNoneTold : List Field → List (List (List ℕ)) → Fault → Type 0
WhyNoneTold columns records fault =
    (fault ≡ OutOfMemory) ⊎ ((fault ≡ LimitReached) × AreTooMany columns records)

-- the bytes of the text that a field says
abbrev pub text_said : Option Value → List ℕ
text_said None = []
text_said (Some value) = text_bytes value

-- the texts that the fields at a place say, one after another
abbrev pub texts_said : Field → ℕ → List (List (List ℕ)) → List ℕ
texts_said column place records = flat_map (λ (record_fields : List (List ℕ)).
    text_said (cell_in column (get_or record_fields place []))) records

-- the texts of one column have 2^31 bytes or more
abbrev pub HaveLongTexts : List Field → List (List (List ℕ)) → Type 0
HaveLongTexts columns records = (k : ℕ) × (k < length columns)
    × ((d : Field) → 2 ^ 31 ≤ length (texts_said (get_or columns k d) k records))

-- the body of a batch of the records' rows has 2^31 bytes or more
abbrev pub HaveLongBody : List Field → List (List (List ℕ)) → Type 0
HaveLongBody columns records = (batch : BatchAt) × AreRows columns records (rows_of batch)
    × AreOfTypes columns batch.columns × (2 ^ 31 ≤ body_length batch)

-- the next records are too long for a message
pub record AreTooLong (columns : List Field) (old new : List (List (List ℕ))) : Type 0 where
  pub taken : List (List (List ℕ))
  pub splits : old ≡ taken ++ new
  pub long : HaveLongTexts columns taken ⊎ HaveLongBody columns taken

-- why no message is made of the next records: F12 only where they are too long
abbrev pub WhyNoMessage : List Field → List (List (List ℕ)) → List (List (List ℕ)) → Fault → Type 0
WhyNoMessage columns old new fault =
    (fault ≡ OutOfMemory) ⊎ ((fault ≡ LimitReached) × AreTooLong columns old new)
