use Rattle.std.proofs.Common.{◌≡◌, ◌≤◌, ◌<◌, ◌*◌, ◌^◌, ◌%◌, arith}
use Rattle.std.proofs.Math.Nat.{pow-le-pow_right}
use Rattle.std.proofs.lemmas.Nat.{pow_pos}
use Rattle.kernels.proofs.KeptRows.{whole_bits, rest_bits}
use Rattle.kernels.proofs.kept_rows.all_rows.Goals as goal

pub returns-then-left-eq0 : goal.returns-then-left-eq0
returns-then-left-eq0 c = λ from. whole_bits c.args.len from _ (omega (arith, c.if-left-eq0.true)) (c.in_ok-words.ensures.items_if_clones_equal (λ y same. same))

pub returns : goal.returns
returns c = λ from.
    let few : c.args.len % 64 ≤ 63 = omega arith in
    let below : 2 ^ (c.args.len % 64) ≤ 2 ^ 63 = pow-le-pow_right (omega arith) few in
    let some : 1 ≤ 2 ^ (c.args.len % 64) = pow_pos (c.args.len % 64) in
    let one : 1 * 2 ^ (c.args.len % 64) % 2 ^ 64 ≡ 2 ^ (c.args.len % 64) = omega (arith, below) in
    let left : 0 < c.args.len % 64 = omega (arith, c.if-left-eq0.false) in
    rest_bits c.args.len from _ _ _ (omega (arith, one, some)) left (c.in_ok-words.ensures.items_if_clones_equal (λ y same. same)) c.in_ok-push.ensures.items
