use Rattle.std.proofs.Common.{ℕ, length, ap, arith}
use Rattle.std.proofs.lemmas.List.{length-append}
use Rattle.flatbuf.proofs.Standing.{length-little, length_padding}
use Rattle.flatbuf.proofs.build.Builder.items.Goals as goal

pub invariant_of-result : goal.invariant_of-result
invariant_of-result c =
    let a = ap length c.in_ok-put.ensures in
    let b = ap length c.in_ok-put-2.ensures in
    let d = ap length c.in_ok-extend_from_slice.ensures.items in
    let e = ap length c.in_ok-extend_from_slice-2.ensures.items in
    let f = ap length c.in_ok-pad.ensures in
    record { rooted = omega (arith, length-append {A = ℕ}, length-little, a, b, d, e, f); whole = omega (arith, length-append {A = ℕ}, length_padding, f) }
