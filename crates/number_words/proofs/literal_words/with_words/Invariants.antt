use Rattle.std.proofs.Common.{◌≡◌, ◌++◌, length, map}
use Rattle.sql_text.specs.Calls.{lexeme_of}
use Rattle.number_words.specs.LiteralWords.{with_words}
use Rattle.number_words.proofs.literal_words.with_words.Given as goal

-- what was found, and what the tokens that are left become, are what all become
abbrev pub invariant-loop-left : goal.invariant-loop-left
invariant-loop-left l = map lexeme_of l.found.items ++ with_words (map lexeme_of l.left) ≡ with_words (map lexeme_of l.tokens)

abbrev pub decreases-loop-left : goal.decreases-loop-left
decreases-loop-left l = length l.left
