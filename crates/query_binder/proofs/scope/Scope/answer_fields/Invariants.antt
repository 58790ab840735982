use Rattle.std.proofs.Common.{◌≡◌, ◌++◌, drop}
use Rattle.query_binder.specs.ResultSchema.{numbered_fields}
use Rattle.query_binder.proofs.scope.Scope.answer_fields.Given as goal

abbrev pub invariant-loop-number : goal.invariant-loop-number
invariant-loop-number l = numbered_fields 0 l.self ≡ l.fields ++ numbered_fields l.number (drop l.number l.self)
