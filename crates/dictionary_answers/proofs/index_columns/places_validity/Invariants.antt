use Rattle.std.proofs.Common.{◌≡◌, map, nat_eq, not, take}
use Rattle.dictionary_answers.specs.inside.CodedTexts.{no_place}
use Rattle.dictionary_answers.proofs.index_columns.places_validity.Given as goal

abbrev pub invariant-loop-place : goal.invariant-loop-place
invariant-loop-place l = l.bits ≡ map (λ number. not (nat_eq number no_place)) (take l.place-index l.places)
