use Rattle.std.proofs.Common.{◌≡◌, rules, sym, subst}
use Rattle.arrow_types.specs.Schema.{IsSchema}
use Rattle.query_binder.specs.SelectList.{CanBeWritten}
use Rattle.query_binder.specs.PlaceTables.{columns_over}
use Rattle.query_binder.proofs.Written.{place_written}
use Rattle.query_binder.proofs.joining.JoinedPlaces.of_place.Goals as goal

pub returns-clause-written : goal.returns-clause-written
returns-clause-written c =
    let place = c.args.place.now in
    let table = c.args.table.now in
    let wide : c.in_ok-of_place.field-0 ≡ columns_over place table = search rules in
    let valid = subst IsSchema c.schema.ensures.schema c.schema.ensures.valid in
    subst CanBeWritten (sym wide) (place_written place table valid)
