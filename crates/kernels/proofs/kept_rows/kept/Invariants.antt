use Rattle.std.proofs.Common.{map, take}
use Rattle.scan_base.specs.View.{pred_of}
use Rattle.kernels.specs.KeptRows.{AreBits, all_keep}
use Rattle.kernels.proofs.kept_rows.kept.Given as goal

abbrev pub invariant-loop-predicate : goal.invariant-loop-predicate
invariant-loop-predicate l =
    AreBits (all_keep l.columns.columns.now l.columns.read.now (map pred_of (take l.predicate-index l.predicates))) l.from l.len l.words.items
