use Rattle.std.proofs.Common.{[], refl}
use Rattle.table_versions.specs.Database.{table_at}
use Rattle.query_binder.proofs.LookedUp.{free, one_table}
use Rattle.query_binder.proofs.places.place_tables.Goals as goal

pub loop-number-init : goal.loop-number-init
loop-number-init c =
    let catalog = c.args.catalog.now in
    let place = c.args.query.now.first in
    record {
      made =
          one_table (table_at catalog place.table) c.args.first.now c.in_ok-share.field-0 c.new-tables.result.items
          c.push.new.self.items c.requires c.in_ok-share.ensures c.new-tables.ensures.items c.in_ok-push.ensures.items;
      left = rw (free catalog [] place c.args.first.now c.requires refl) refl;
    }
