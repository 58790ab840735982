use Rattle.std.proofs.Common.{sym, ap, is_some, arith}
use Rattle.std.specs.Int.{w128}
use Rattle.std.proofs.lemmas.Int.{to_z-of_z}
use Rattle.arrays.proofs.Entries.{no_entry}
use Rattle.arrays.proofs.indices.has_entry.Goals as goal

pub returns-in-Err : goal.returns-in-Err
returns-in-Err c =
    let same = to_z-of_z w128 c.args.index c.ranges.index in
    let none = no_entry c.args.dictionary.now c.args.index (omega (arith, c.len-count.ensures)) (λ fits. c.in-Err.ensures (rw same fits)) in
    sym (ap is_some (none))
