use Rattle.std.proofs.Common.{◌≡◌, take}
use Rattle.typed_plan.specs.Scope.{columns_in}
use Rattle.query_binder.proofs.scope.Scope.of_place.Given as goal

abbrev pub invariant-loop-field : goal.invariant-loop-field
invariant-loop-field l = l.columns.items ≡ columns_in l.place (take l.field-index l.fields)
