use Rattle.std.proofs.Common.{◌≡◌, ℕ, ◌<◌, true, get_or, None}
use Rattle.first_rows.specs.NumberedKeys.{rest_of}
use Rattle.first_rows.specs.Parts.{same_part}
use Rattle.first_rows.proofs.numbered_keys.NumberedKeyPartialEq.eq.Given as goal

abbrev pub invariant-loop-place : goal.invariant-loop-place
invariant-loop-place l = (k : ℕ) → k < l.place →
    same_part (get_or (rest_of l.self) k None) (get_or (rest_of l.other) k None) ≡ true
