use Rattle.std.proofs.Common.{◌+◌, ◌*◌, ◌/◌, ℕ, Bool, List, false, get_or, ap, ◌∙◌, arith}
use Rattle.bitmap.specs.Bits.{bits_of}
use Rattle.hash_join.proofs.Marking.{last_bit}
use Rattle.hash_join.proofs.marks.Marks.into_bits.Goals as goal

pub returns-clause-end : goal.returns-clause-end
returns-clause-end c =
    let count : ℕ = c.args.self.span.count in
    let len : ℕ = 64 * (count / 64 + 1) in
    ap (λ (bits : List Bool). get_or bits count false) (c.new.ensures.value ∙ ap (λ (bytes : List ℕ). bits_of bytes 0 len) c.in_ok-from_vec.ensures.ok)
    ∙ last_bit c.args.self.bytes.items len count (omega arith) c.args.self.end
