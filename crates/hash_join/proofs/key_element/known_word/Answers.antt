use Rattle.std.proofs.Common.{◌≡◌, ℕ, take, drop, ap, ◌∙◌, arith}
use Rattle.std.specs.Simd.Lanes.{mask_l}
use Rattle.hash_join.proofs.Words.{part_word}
use Rattle.hash_join.proofs.key_element.known_word.Goals as goal

pub returns-then-count-eq64 : goal.returns-then-count-eq64
returns-then-count-eq64 c =
    let bits = c.args.validity.now in
    let all : 64 ≡ c.args.count = omega arith in
    c.word.ensures ∙ ap (λ (count : ℕ). mask_l (take count (drop c.args.from bits))) all ∙ part_word bits c.args.from c.args.count c.requires.within

pub returns-else-count-eq64 : goal.returns-else-count-eq64
returns-else-count-eq64 c = c.short_word.ensures ∙ part_word c.args.validity.now c.args.from c.args.count c.requires.within
