-- The tables of all places, as they are read.
use Rattle.std.specs.Prelude.{ℕ, List, [], ◌∷◌}
use Rattle.table_versions.specs.StoredTables.{TableAt}
use Rattle.batch_skipping.specs.declared.opened_batches.OpenedList.{OpenedList}
use Rattle.batch_skipping.specs.Narrow.{CanNarrow, narrowed}

-- tables with these batches alone, place by place
abbrev pub narrow_all : List (List ℕ) → List TableAt → List TableAt
narrow_all (numbers ∷ lists) (table ∷ tables) = narrowed numbers table ∷ narrow_all lists tables
narrow_all _ _ = []

-- the batches of each are there
abbrev pub CanAll : List TableAt → List OpenedList → Type 0
CanAll (table ∷ tables) (list ∷ lists) =
    CanNarrow table list.numbers.items list.rows × CanAll tables lists
CanAll [] [] = Unit {0}
CanAll _ _ = ⊥
