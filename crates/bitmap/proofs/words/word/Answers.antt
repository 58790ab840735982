use Rattle.std.proofs.Common.{◌+◌, ◌-◌, ◌/◌, ◌∙◌, arith, refl}
use Rattle.bitmap.proofs.Masks.{at_start, across, little_part}
use Rattle.bitmap.proofs.words.word.Goals as goal

pub returns-then-shift-eq0 : goal.returns-then-shift-eq0
returns-then-shift-eq0 c =
    let bytes = c.args.bytes.now in
    let from = c.args.first / 8 in
    at_start c.args.first c.read_u64-low.result bytes (λ k. omega (arith, c.type_inv.bytes k)) (omega arith)
    (c.read_u64-low.ensures ∙ little_part from 8 (from + 8 - from) bytes (omega arith)) (omega arith)

pub returns : goal.returns
returns c =
    let bytes = c.args.bytes.now in
    let from = c.args.first / 8 in
    across c.args.first c.read_u64-low.result _ bytes (λ k. omega (arith, c.type_inv.bytes k)) (omega arith)
    (c.read_u64-low.ensures ∙ little_part from 8 (from + 8 - from) bytes (omega arith)) refl (omega arith)
