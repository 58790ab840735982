use Rattle.std.proofs.Common.{◌≡◌, drop}
use Rattle.std.specs.List.{list_any}
use Rattle.arrow_types.specs.Schema.{same_dictionary}
use Rattle.arrow_schema.proofs.reading.is_shared.Given as goal

abbrev pub invariant-loop-other : goal.invariant-loop-other
invariant-loop-other l = list_any (same_dictionary l.field) (drop l.other-index l.others) ≡ list_any (same_dictionary l.field) l.others
