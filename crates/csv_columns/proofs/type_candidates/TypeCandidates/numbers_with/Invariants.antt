use Rattle.std.proofs.Common.{◌≡◌, ℕ, List, [], ◌∷◌, ◌++◌, drop, map, take}
use Rattle.number_words.specs.NumberTexts.{types_tried}
use Rattle.csv_columns.proofs.Tried.{taken}
use Rattle.csv_columns.proofs.type_candidates.TypeCandidates.numbers_with.Given as goal

-- the types so far took one field more, and the others not yet
abbrev pub invariant-loop-place : goal.invariant-loop-place
invariant-loop-place l = (fields : List (List ℕ)) → l.fn.self.numbers ≡ map (taken fields) types_tried
    → l.numbers ≡ map (taken (fields ++ l.field ∷ [])) (take l.place types_tried) ++ map (taken fields) (drop l.place types_tried)
