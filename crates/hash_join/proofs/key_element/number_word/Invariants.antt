use Rattle.std.proofs.Common.{◌≡◌, ◌+◌, ◌-◌}
use Rattle.arrays.specs.Number.{integer_at}
use Rattle.hash_join.specs.Words.{passing_word}
use Rattle.hash_join.proofs.key_element.number_word.Given as goal

abbrev pub invariant-loop-taken : goal.invariant-loop-taken
invariant-loop-taken g l =
    l.word ≡ passing_word (λ place. g.L.Look.passes l.look (integer_at g.E.Integer.KIND l.values place)) (l.from + (l.count - l.taken)) l.taken
