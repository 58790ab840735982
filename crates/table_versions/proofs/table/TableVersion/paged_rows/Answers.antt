use Rattle.std.specs.Prelude.{IfSome}
use Rattle.std.proofs.Common.{◌≡◌, ◌%◌, ℕ, List, length, Option, Some, sym, subst, slice_get, option_map}
use Rattle.std.specs.Slice.{IsItemAt}
use Rattle.arrays.specs.Batch.{BatchAt}
use Rattle.table_versions.specs.StoredTables.{table_of}
use Rattle.table_versions.proofs.Paging.{paged_rows, rows_all_filled}
use Rattle.table_versions.proofs.table.TableVersion.paged_rows.Goals as goal

pub returns-clause-rows : goal.returns-clause-rows
returns-clause-rows c =
    let found = subst (λ (some : List ℕ). IsItemAt some (c.args.index % 256) c.get.result) c.deref.ensures.value c.get.ensures.lookup in
    subst (λ (rows : Option ℕ). IfSome rows (λ n. option_map (λ (batch : BatchAt). batch.rows) (slice_get c.args.self.now.batches c.args.index) ≡ Some n))
    (sym c.copied.ensures) (paged_rows c.args.self.now.batches c.args.index c.in_ok-page_of.field-0.now c.in_ok-page_of.ensures.page c.get.result found)

pub returns-clause-filled : goal.returns-clause-filled
returns-clause-filled c =
    rows_all_filled c.args.self.now (length (table_of c.args.self.now).rows) c.page_of.ensures.kept c.args.index c.copied.result (returns-clause-rows c)
