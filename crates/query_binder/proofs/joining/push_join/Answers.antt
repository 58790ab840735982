use Rattle.std.proofs.Common.{◌≡◌, ◌++◌, refl, rules, length, sym, subst}
use Rattle.query_binder.specs.PlaceTables.{columns_over}
use Rattle.query_binder.specs.NameRules.{equality_fault}
use Rattle.typed_plan.specs.Faults.{first_in}
use Rattle.query_binder.specs.PlannedTree.{keys_of}
use Rattle.arrow_types.specs.Schema.{IsSchema}
use Rattle.query_binder.specs.SelectList.{CanBeWritten}
use Rattle.query_binder.proofs.Outcomes.{binds_as, holds_if_ok}
use Rattle.query_binder.proofs.Written.{wider_written}
use Rattle.query_binder.proofs.joining.push_join.Goals as goal

pub returns-clause-bound : goal.returns-clause-bound
returns-clause-bound c =
    let scope = c.args.scope.now in
    let on = c.args.join.now.on in
    let wide = scope ++ columns_over c.args.join.now.place c.args.table.now in
    let wider : c.push_place.new.self ≡ wide = search rules in
    let bound = rw (c.len-seam.ensures, c.as_slice-2.ensures, wider) at c.bind_on.ensures in
    binds_as (first_in (equality_fault (length scope) wide) on) (first_in (equality_fault (length scope) wide) on)
    (λ keys. keys ≡ keys_of (length scope) wide on)
    (λ keys. (c.push_place.new.self ≡ wide) × (keys ≡ keys_of (length scope) wide on))
    c.bind_on.result refl (λ keys is. (wider, is)) bound

pub returns-clause-written : goal.returns-clause-written
returns-clause-written c written =
    let scope = c.args.scope.now in
    let place = c.args.join.now.place in
    let table = c.args.table.now in
    let wider : c.push_place.new.self ≡ scope ++ columns_over place table = search rules in
    let valid = subst IsSchema c.schema.ensures.schema c.schema.ensures.valid in
    holds_if_ok (CanBeWritten c.push_place.new.self) c.bind_on.result
    (subst CanBeWritten (sym wider) (wider_written scope place table valid written))
