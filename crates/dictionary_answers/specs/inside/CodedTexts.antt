-- Inside: a column of texts that is coded.
use Rattle.std.specs.Prelude.{◌≡◌, ℕ, ◌+◌, List, Option, None, Some, map, nat_eq, if◌then◌else◌}
use Rattle.scan_base.specs.declared.value.Value.{Value}
use Rattle.dictionary_answers.specs.Firsts.{firsts, bytes_in, AreLed}

-- what stands in the list of places for a slot that has none
abbrev pub no_place : ℕ
no_place = 4294967295

-- the place that a number in that list is
abbrev pub held : ℕ → Option ℕ
held number = if nat_eq number no_place then None else Some number

-- texts, which of them each slot holds, and how many bytes more texts may have
pub record CodedTextsAt : Type 0 where
  pub texts : List (List ℕ)
  pub places : List (Option ℕ)
  pub left : ℕ

-- texts that were found, and how many bytes more they may have
pub record DistinctTextsAt : Type 0 where
  pub texts : List (List ℕ)
  pub left : ℕ

-- these texts, and the places of slots among them
abbrev pub coded_texts_at : DistinctTextsAt → List ℕ → CodedTextsAt
coded_texts_at found places =
    record { texts = found.texts; places = map held places; left = found.left }

-- The values are coded: the texts are theirs, each place leads to its value, and the bytes of the
-- texts and those that are left are all for which there was room.
pub record AreCoded (values : List Value) (room : ℕ) (coded : CodedTextsAt) : Type 0 where
  pub texts : coded.texts ≡ firsts values
  pub places : AreLed coded.texts coded.places values
  pub bytes : bytes_in coded.texts + coded.left ≡ room
