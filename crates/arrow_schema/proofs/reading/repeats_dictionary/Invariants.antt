use Rattle.std.proofs.Common.{◌≡◌, drop}
use Rattle.scan_base.specs.Lists.{repeats}
use Rattle.arrow_types.specs.Schema.{same_dictionary}
use Rattle.arrow_schema.proofs.reading.repeats_dictionary.Given as goal

abbrev pub invariant-loop-index : goal.invariant-loop-index
invariant-loop-index l = repeats same_dictionary (drop l.index l.fields) ≡ repeats same_dictionary l.fields
