-- The rows of one batch of the first place.
use Rattle.std.specs.Prelude.{◌≡◌, ℕ, ◌==◌, List, [], ◌∷◌, map}
use Rattle.std.specs.List.{filter, flat_map}
use Rattle.table_versions.specs.Table.{Row}
use Rattle.row_sources.specs.Running.{RowsAt}

-- the rows that come of the batch of this number
abbrev pub of_number : ℕ → List (ℕ × Row) → List (ℕ × Row)
of_number number rows = filter (λ (row : ℕ × Row). row.0 == number) rows

-- the rows of that batch alone, as those of a first place that has no other, before the first one;
-- so many are to be looked at
abbrev pub part_of : ℕ → ℕ → RowsAt → RowsAt
part_of number unseen rows = record rows {
  ahead = map (λ (row : ℕ × Row). (0, row.1)) (of_number number rows.ahead);
  batches = 0 ∷ [];
  opened = [];
  unseen = unseen;
}

-- rows come batch by batch, where no batch was opened
abbrev pub ComeInOrder : RowsAt → Type 0
ComeInOrder rows =
    rows.opened ≡ [] → rows.ahead ≡ flat_map (λ number. of_number number rows.ahead) rows.batches
