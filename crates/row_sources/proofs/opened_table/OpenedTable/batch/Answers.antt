use Rattle.std.proofs.Common.{◌≡◌, ◌<◌, ℕ, length, get_or, slice_get, sym, ap, ◌∙◌, arith, rules}
use Rattle.table_versions.specs.StoredTables.{TableAt}
use Rattle.batch_skipping.specs.Narrow.{CanNarrow, narrowed}
use Rattle.row_sources.proofs.Cells.{within_at}
use Rattle.row_sources.proofs.Narrowing.{at_any, at_many, at_number}
use Rattle.row_sources.specs.declared.opened_table.OpenedTable.TheInside.{Inside}
use Rattle.row_sources.proofs.opened_table.OpenedTable.batch.Goals as goal

low : (s : Inside) (view : TableAt) (index : ℕ) → CanNarrow s.table s.numbers.items s.rows → narrowed s.numbers.items s.table ≡ view →
    index < length view.batches → index < length s.numbers.items
low s view index can is h = omega (arith, h, ap (λ (table : TableAt). length table.batches) is, at_many s.table.batches s.numbers.items can.there)

pub index-requires : goal.index-requires
index-requires c = search (rules, low c.self.inside c.args.self.now c.args.index c.self.invariant c.self.view_is c.requires)

pub batch-requires : goal.batch-requires
batch-requires c =
    let s = c.self.inside in
    let here = low s c.args.self.now c.args.index c.self.invariant c.self.view_is c.requires in
    omega (arith, c.index.ensures, at_any s.numbers.items c.args.index c.index.result.now 0 here, within_at (length s.table.batches) s.numbers.items c.args.index c.self.invariant.there here)

pub returns-clause-batch : goal.returns-clause-batch
returns-clause-batch c =
    let s = c.self.inside in
    let here = low s c.args.self.now c.args.index c.self.invariant c.self.view_is c.requires in
    let number : c.index.result.now ≡ get_or s.numbers.items c.args.index 0 = c.index.ensures ∙ at_any s.numbers.items c.args.index c.index.result.now 0 here in
    ap (λ (table : TableAt). slice_get table.batches c.args.index) (sym c.self.view_is)
    ∙ at_number s.table.batches s.numbers.items c.args.index c.self.invariant.there here
    ∙ ap (slice_get s.table.batches) (sym number) ∙ c.batch.ensures.batch
