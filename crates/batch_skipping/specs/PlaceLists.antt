-- What is read of each place.
use Rattle.std.specs.Prelude.{◌≡◌, ℕ, List, [], ◌∷◌, length}
use Rattle.table_versions.specs.StoredTables.{TableAt, table_of}
use Rattle.batch_skipping.specs.declared.opened_batches.OpenedList.{OpenedList}
use Rattle.batch_skipping.specs.Narrow.{CanNarrow, narrowed_from, narrowed_to}

-- batches of a table, and which of their rows are the rows `begin` up to, not with, `end` of the
-- table
pub record IsListOf (begin end : ℕ) (table : TableAt) (list : OpenedList) : Type 0 where
  pub can : CanNarrow table list.numbers.items list.rows
  pub from : list.from ≡ narrowed_from begin table.batches list.numbers.items
  pub to : list.to ≡ narrowed_to end table.batches list.numbers.items

-- batches of these tables, of which all rows are read
abbrev pub AreWhole : List TableAt → List OpenedList → Type 0
AreWhole [] [] = Unit {0}
AreWhole (table ∷ tables) (list ∷ lists) =
    IsListOf 0 (length (table_of table).rows) table list × AreWhole tables lists
AreWhole _ _ = ⊥

-- batches of the tables of all places: of the first one these rows are read, of the others all
abbrev pub AreLists : ℕ → ℕ → List TableAt → List OpenedList → Type 0
AreLists from to (table ∷ tables) (list ∷ lists) =
    IsListOf from to table list × AreWhole tables lists
AreLists from to _ _ = ⊥
