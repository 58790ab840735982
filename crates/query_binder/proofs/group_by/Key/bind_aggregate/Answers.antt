use Rattle.std.proofs.Common.{◌≡◌, sym, ap, ◌∙◌}
use Rattle.sql_query.specs.declared.query.Expression.{Expression}
use Rattle.sql_query.specs.declared.query.Expression.TheVariants.{Column}
use Rattle.query_binder.specs.SelectList.{aggregate_fault}
use Rattle.query_binder.specs.PlannedTree.{aggregate_of}
use Rattle.query_binder.specs.ResultSchema.{item_field}
use Rattle.query_binder.proofs.Outcomes.{binds_as}
use Rattle.query_binder.proofs.group_by.Key.bind_aggregate.Goals as goal

pub returns-in-Column : goal.returns-in-Column
returns-in-Column c =
    let scope = c.args.self.now.scope.now in
    let numbers = c.args.self.now.numbers.now in
    let item = c.args.item.now in
    let place = c.args.place in
    let is = sym c.in-Column.is in
    binds_as (aggregate_fault scope numbers (Column c.in-Column.name)) (aggregate_fault scope numbers item.expression)
    (λ bound. (bound.0 ≡ aggregate_of scope numbers (Column c.in-Column.name))
    × (bound.1 ≡ item_field scope place (record { expression = Column c.in-Column.name; alias = item.alias })))
    (λ bound. (bound.0 ≡ aggregate_of scope numbers item.expression) × (bound.1 ≡ item_field scope place item))
    c.bind_column.result (ap (aggregate_fault scope numbers) is)
    (λ bound b. (
      b.0 ∙ ap (aggregate_of scope numbers) is,
      b.1 ∙ ap (λ (e : Expression). item_field scope place (record { expression = e; alias = item.alias })) is,
    ))
    c.bind_column.ensures
