use Rattle.std.proofs.Common.{◌≡◌, ◌++◌, List, ℕ}
use Rattle.array_select.specs.SetBits.{set_bits}
use Rattle.array_select.proofs.selection.Selection.push_word.Given as goal

-- some places were added, and those of the bits that are left are the others
abbrev pub invariant-loop-left : goal.invariant-loop-left
invariant-loop-left l = (more : List ℕ) × (l.self ≡ l.fn.self ++ more) × (more ++ set_bits 64 l.base l.left ≡ set_bits 64 l.base l.word)

abbrev pub decreases-loop-left : goal.decreases-loop-left
decreases-loop-left l = l.left
