-- Inside: tables of where the values of a dictionary stand among texts.
use Rattle.std.specs.Prelude.{◌≡◌, ◌≢◌, ◌<◌, ℕ, List, length, get_or, slice_index, Option, Some}
use Rattle.scan_base.specs.declared.value.Value.{Value}
use Rattle.scan_base.specs.declared.value.Value.TheVariants.{Null}
use Rattle.dictionary_answers.specs.inside.CodedTexts.{held, no_place}
use Rattle.dictionary_answers.specs.Firsts.{Leads}

-- a table has a place for each value of a dictionary: of those that were met it leads to their text
pub record IsTable (dictionary : List Value) (texts : List (List ℕ)) (table : List ℕ) : Type 0 where
  pub long : length table ≡ length dictionary
  pub met : (index : ℕ) → index < length table → slice_index table index ≢ no_place →
      Leads texts (Some (slice_index table index)) (get_or dictionary index Null)

-- what was kept of the indices that were met leads to their values
abbrev pub AreMet : List Value → List (List ℕ) → (ℕ → Option ℕ) → Type 0
AreMet dictionary texts kept = (index place : ℕ) → kept index ≡ Some place →
    Leads texts (held place) (get_or dictionary index Null)
