use Rattle.std.proofs.Common.{◌≡◌, ◌<◌, ◌++◌, drop, IfSome}
use Rattle.typed_plan.specs.Scope.{named_numbers}
use Rattle.query_binder.proofs.Found.{listed}
use Rattle.query_binder.proofs.scope.Scope.column_of.Given as goal

abbrev pub invariant-loop-number : goal.invariant-loop-number
invariant-loop-number l = record {
  within : IfSome l.found (λ found. found < l.number);
  seen : named_numbers 0 l.name l.self ≡ listed l.found ++ named_numbers l.number l.name (drop l.number l.self);
}
