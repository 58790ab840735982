-- Entries in byte order of their names.
use Rattle.std.specs.Prelude.{◌≡◌, true, List, [], ◌∷◌}
use Rattle.std.specs.Cmp.Lexicographic.{slice_cmp}
use Rattle.std.specs.Ordering.{nat_cmp, is_lt}
use Rattle.table_versions.specs.Table.{Name}

-- whether a name is lower than the first of these
abbrev pub StandsBefore : {T : Type 0} → Name → List (Name × T) → Type 0
StandsBefore name [] = Unit {0}
StandsBefore name (entry ∷ entries) = is_lt (slice_cmp nat_cmp name entry.0) ≡ true

-- each name is lower than the next
abbrev pub IsInOrder : {T : Type 0} → List (Name × T) → Type 0
IsInOrder [] = Unit {0}
IsInOrder (entry ∷ entries) = StandsBefore entry.0 entries × IsInOrder entries
