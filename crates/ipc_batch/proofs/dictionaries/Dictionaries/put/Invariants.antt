use Rattle.std.proofs.Common.{◌≡◌, ◌++◌, take, drop}
use Rattle.std.specs.Arc.{arc_value}
use Rattle.ipc_batch.specs.State.{with_values}
use Rattle.ipc_batch.proofs.dictionaries.Dictionaries.put.Given as goal

abbrev pub invariant-loop-j : goal.invariant-loop-j
invariant-loop-j l = record {
  same : l.self-inside.entries.items ≡ l.fn.self;
  found : take l.j l.fn.self ++ with_values l.id (arc_value l.values) (drop l.j l.fn.self) ≡ with_values l.id (arc_value l.values) l.fn.self;
}
