use Rattle.std.proofs.Common.{◌≡◌, ◌≤◌, ◌+◌, ◌-◌, ◌*◌, ◌%◌, ◌^◌, length, arith}
use Rattle.std.proofs.Math.Nat.{pow-le-pow_right}
use Rattle.std.proofs.lemmas.Nat.{pow_pos}
use Rattle.kernels.proofs.FrontBytes.{short_front, long_front}
use Rattle.kernels.proofs.needle.Needle.new.Goals as goal

pub invariant_of-result : goal.invariant_of-result
invariant_of-result c =
    let text = c.args.text.now in
    let few : 8 * length text ≤ 56 = omega (arith, c.if-text-lt8.true) in
    let below : 2 ^ (8 * length text) ≤ 2 ^ 56 = pow-le-pow_right (omega arith) few in
    let some : 1 ≤ 2 ^ (8 * length text) = pow_pos (8 * length text) in
    let ones : 1 * 2 ^ (8 * length text) % 2 ^ 64 - 1 + 1 ≡ 2 ^ (8 * length text) = omega (arith, below, some) in
    short_front text c.short_number.result (1 * 2 ^ (8 * length text) % 2 ^ 64 - 1) c.if-text-lt8.true (λ k. omega (arith, c.type_inv.text k)) c.short_number.ensures ones

pub invariant_of-result-2 : goal.invariant_of-result-2
invariant_of-result-2 c = long_front c.args.text.now c.eight_bytes.result c.if-text-lt8.false (λ k. omega (arith, c.type_inv.text k)) c.eight_bytes.ensures
