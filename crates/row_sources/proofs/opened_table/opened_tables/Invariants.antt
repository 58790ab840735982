use Rattle.std.proofs.Common.{◌≡◌, ◌++◌, length, map, drop}
use Rattle.std.specs.Vec.Iter.{into_iter_items}
use Rattle.batch_skipping.specs.declared.opened_batches.OpenedList.{OpenedList}
use Rattle.row_sources.specs.OpenedTables.{CanAll, narrow_all}
use Rattle.row_sources.proofs.opened_table.opened_tables.Given as goal

abbrev pub invariant-loop-list : goal.invariant-loop-list
invariant-loop-list l =
    let left = into_iter_items l.list-iterator in record {
      can : CanAll (drop (length l.opened.items) l.tables) left;
      made : l.opened.items ++ narrow_all (map (λ (list : OpenedList). list.numbers.items) left) (drop (length l.opened.items) l.tables)
          ≡ narrow_all (map (λ (list : OpenedList). list.numbers.items) l.fn.lists.items) l.tables;
    }
