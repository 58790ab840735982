use Rattle.std.proofs.Common.{◌≢◌, ◌<◌, ℕ, get_or}
use Rattle.arrow_types.specs.declared.data_type.NumberType.{NumberType}
use Rattle.number_words.specs.declared.words.TheConstants.{TYPES}
use Rattle.number_words.specs.NumberTexts.{word}
use Rattle.number_words.proofs.words.type_named.Given as goal

-- no type so far has the word
abbrev pub invariant-loop-kind : goal.invariant-loop-kind
invariant-loop-kind l = (k : ℕ) (d : NumberType) → k < l.kind-index → l.text ≢ word (get_or TYPES k d)
