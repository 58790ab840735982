use Rattle.std.proofs.Common.{◌≡◌, ◌++◌, ◌∷◌, [], ℕ, ◌-◌, ◌%◌, length, replicate, sym, ap, ◌∙◌, arith, rules}
use Rattle.flatbuf.specs.Block.{padding}
use Rattle.fetch_stream.proofs.Padding.{zeros_taken, parts_padded, part_padded}
use Rattle.fetch_stream.proofs.payload.push_padded.Goals as goal

pub returns-in_ok-push-2 : goal.returns-in_ok-push-2
unfolding padding
returns-in_ok-push-2 c =
    let z = (8 - length c.args.buffer % 8) % 8 in
    let zeros : c.from_static.result ≡ padding (length c.args.buffer) = rw c.len.ensures.value at c.from_static.ensures ∙ zeros_taken z 8 (omega arith) in
    let pushed : c.push-then-zeros-gt0.new.self.items ≡ (c.args.parts.now.items ++ c.args.buffer ∷ []) ++ c.from_static.result ∷ [] = search rules in
    parts_padded c.args.parts.now.items c.args.buffer c.from_static.result c.push-then-zeros-gt0.new.self.items pushed zeros

pub returns-else-zeros-gt0 : goal.returns-else-zeros-gt0
unfolding padding
returns-else-zeros-gt0 c =
    let none : (8 - length c.args.buffer % 8) % 8 ≡ 0 = (let len = c.len.ensures.value in omega (arith, len, c.if-zeros-gt0.false)) in
    part_padded c.args.parts.now.items c.args.buffer c.push.new.self.items c.in_ok-push.ensures.items (ap (λ (n : ℕ). replicate n 0) (sym none))
