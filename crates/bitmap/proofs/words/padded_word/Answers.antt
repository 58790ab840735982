use Rattle.std.proofs.Common.{arith}
use Rattle.bitmap.proofs.Masks.{at_start, across}
use Rattle.bitmap.proofs.words.padded_word.Goals as goal

pub returns-then-shift-eq0 : goal.returns-then-shift-eq0
returns-then-shift-eq0 c =
    at_start c.args.first c.eight_bytes-low.result c.args.bytes.now (λ k. omega (arith, c.type_inv.bytes k)) (omega arith) c.eight_bytes-low.ensures (omega arith)

pub returns : goal.returns
returns c =
    across c.args.first c.eight_bytes-low.result c.byte_or_zero-high.result c.args.bytes.now (λ k. omega (arith, c.type_inv.bytes k)) (omega arith)
    c.eight_bytes-low.ensures c.byte_or_zero-high.ensures (omega arith)
