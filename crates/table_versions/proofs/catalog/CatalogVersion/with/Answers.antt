use Rattle.std.proofs.Common.{rules, ◌≡◌, ◌≤◌, map, length, subst}
use Rattle.std.specs.Arc.{arc_value}
use Rattle.table_versions.specs.Table.{Name}
use Rattle.table_versions.specs.StoredTables.{TableAt}
use Rattle.table_versions.specs.Database.{with_table}
use Rattle.table_versions.specs.KeptTables.{IsCatalog}
use Rattle.table_versions.specs.Valid.{IsName}
use Rattle.table_versions.proofs.Order.{in_order-with_table}
use Rattle.table_versions.proofs.Tables.{all_with_table}
use Rattle.table_versions.proofs.catalog.CatalogVersion.with.Goals as goal

pub invariant_of-result : goal.invariant_of-result
invariant_of-result c =
    let old = map arc_value c.self.inside.tables.items in
    let new : with_table c.args.name c.args.table old ≡ map arc_value c.in_ok-spliced.field-0.items = search rules in
    let same : old ≡ c.args.self.now = c.self.view_is in
    let room : length (with_table c.args.name c.args.table old) ≤ 256 = rw same c.requires.room in
    subst IsCatalog new (record {
      ordered = in_order-with_table c.args.name c.args.table old c.self.invariant.ordered;
      named = all_with_table (λ (entry : Name × TableAt). IsName entry.0) c.args.name c.args.table old c.requires.named c.self.invariant.named;
      few = room;
    })
