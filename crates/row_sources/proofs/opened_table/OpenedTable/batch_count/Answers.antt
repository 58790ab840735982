use Rattle.std.proofs.Common.{◌≡◌, length, vec_len, ap, arith, rules}
use Rattle.table_versions.specs.StoredTables.{TableAt}
use Rattle.row_sources.proofs.Narrowing.{at_many}
use Rattle.row_sources.proofs.opened_table.OpenedTable.batch_count.Goals as goal

pub returns : goal.returns
returns c =
    let s = c.self.inside in
    let size : vec_len s.numbers ≡ length s.numbers.items = search rules in
    omega (
      arith,
      c.len.ensures,
      size,
      at_many s.table.batches s.numbers.items c.self.invariant.there,
      ap (λ (table : TableAt). length table.batches) c.self.view_is,
    )
