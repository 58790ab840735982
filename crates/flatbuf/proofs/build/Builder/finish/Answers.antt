use Rattle.std.proofs.Common.{ℕ, length, ap, arith}
use Rattle.std.proofs.lemmas.List.{length-append}
use Rattle.flatbuf.proofs.Standing.{length-little}
use Rattle.flatbuf.proofs.build.Builder.finish.Goals as goal

pub returns-clause-whole : goal.returns-clause-whole
returns-clause-whole c =
    let a = ap length c.in_ok-put.ensures in
    let b = ap length c.in_ok-extend_from_slice.ensures.items in
    let w = c.table.invariant.whole in
    omega (arith, length-append {A = ℕ}, length-little, a, b, w)
