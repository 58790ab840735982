-- Inside: what one value adds to the texts that were found.
use Rattle.std.specs.Prelude.{◌≡◌, ℕ, ◌+◌, [], ◌∷◌}
use Rattle.scan_base.specs.declared.value.Value.{Value}
use Rattle.dictionary_answers.specs.inside.CodedTexts.{DistinctTextsAt, held}
use Rattle.dictionary_answers.specs.Firsts.{firsts_behind, bytes_in, Leads}

-- how many bytes the texts that were found and all to come may have
abbrev pub room_of : DistinctTextsAt → ℕ
room_of found = bytes_in found.texts + found.left

-- a value is among the texts then, and this is its place
pub record Finds (old new : DistinctTextsAt) (place : ℕ) (value : Value) : Type 0 where
  pub texts : new.texts ≡ firsts_behind old.texts (value ∷ [])
  pub leads : Leads new.texts (held place) value
  pub bytes : bytes_in new.texts + new.left ≡ bytes_in old.texts + old.left
