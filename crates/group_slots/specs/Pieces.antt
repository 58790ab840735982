-- Inside: sums in pieces.
use Rattle.std.specs.Prelude.{◌≡◌, ◌<◌, ℕ, List, length, map, get_or}
use Rattle.group_slots.specs.declared.partial_sums.PartialSum.{PartialSum}
use Rattle.group_slots.specs.declared.tally.Tally.{Tally}
use Rattle.group_slots.specs.Tallies.{no_rows, both}

-- a piece, as a tally
abbrev pub piece_tally : PartialSum → Tally
piece_tally piece = record { count = piece.count; sum = piece.sum }

-- pieces, as tallies
abbrev pub tallies_of : List PartialSum → List Tally
tallies_of pieces = map piece_tally pieces

-- each tally has those rows more that the other at its place has
pub record AreBoth (before others after : List Tally) : Type 0 where
  pub long : length after ≡ length before
  pub each : (group : ℕ) → group < length before →
      get_or after group no_rows ≡ both (get_or before group no_rows) (get_or others group no_rows)
