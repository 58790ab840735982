use Rattle.std.proofs.Common.{◌*◌, ◌-◌, ℕ, ◌∙◌, ap, arith}
use Rattle.std.specs.Int.Bits.{bit_and}
use Rattle.std.proofs.lemmas.Nat.{and_mask, one_shl}
use Rattle.group_slots.proofs.tags.lowest.Goals as goal

pub returns : goal.returns
returns c =
    ap (λ (n : ℕ). bit_and c.args.word (n - 1)) (one_shl (8 * c.args.len) 64 (omega arith)) ∙ and_mask c.args.word (8 * c.args.len)
