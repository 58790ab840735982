-- Inside: what is counted of each seat.
use Rattle.std.specs.Prelude.{◌≡◌, ◌<◌, ◌+◌, ℕ, List, length, slice_index_or, Bool, Option, Some}
use Rattle.std.specs.Prelude.{None, if◌then◌else◌}
use Rattle.version_cell.specs.SignedEntries.{SignedEntry, own}

-- how many entries of a log each seat made, by the numbers of the seats
abbrev pub Counted : List ℕ → List SignedEntry → Type 0
Counted counts entries =
    (seat : ℕ) → seat < length counts → slice_index_or counts seat 0 ≡ length (own seat entries)

-- a number without a bound, and how many times it was written again
pub record TimesAt : Type 0 where
  pub times : ℕ
  pub steps : ℕ

-- what was before, if anything was, and perhaps one more
abbrev pub one_more : {X : Type 0} → (X → TimesAt) → Option X → Bool → TimesAt
one_more f None more = record { times = 0; steps = 0 }
one_more f (Some before) more = record {
  times = (f before).times + (if more then 1 else 0);
  steps = (f before).steps + 1;
}
