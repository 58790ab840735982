use Rattle.std.proofs.Common.{◌≡◌, ◌≤◌, ◌*◌, ◌-◌, ◌^◌, ◌%◌, ℕ, ◌∙◌, ap, arith}
use Rattle.std.specs.Int.Bits.{bit_and}
use Rattle.std.proofs.lemmas.Nat.{and_mask}
use Rattle.std.proofs.Math.Nat.{pow-le-pow_right}
use Rattle.bitmap.proofs.Places.{short}
use Rattle.bitmap.proofs.words.short_word.Goals as goal

pub returns : goal.returns
returns c =
    let few : c.args.len ≤ 63 = omega arith in
    let below : 2 ^ c.args.len ≤ 2 ^ 63 = pow-le-pow_right (omega arith) few in
    let one : 1 * 2 ^ c.args.len % 2 ^ 64 ≡ 2 ^ c.args.len = omega (arith, below) in
    ap (λ (n : ℕ). bit_and c.padded_word.result (n - 1)) one ∙ and_mask c.padded_word.result c.args.len
    ∙ short c.padded_word.result c.args.first c.args.len c.args.bytes.now (omega arith) c.padded_word.ensures
