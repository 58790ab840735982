-- The laws of what parsing answers.
use Rattle.std.specs.Prelude.{◌≡◌, ◌↔◌, ℕ, true, false, List, ◌++◌}
use Rattle.scan_base.specs.Limits.{most_open}
use Rattle.scan_base.specs.declared.fault.Fault.{Fault}
use Rattle.grammar.specs.Rule.{Spells, Nested, Any}
use Rattle.sql_parse.specs.Clauses.{query}
use Rattle.sql_parse.specs.FactoredGrammar as factored
use Rattle.sql_parse.specs.Parse.{IsSentence, IsShallow, Accepts, Refuses}
use Rattle.sql_query.specs.Sentence.{Sentence}
use Rattle.sql_parse.specs.Tokens.{Mark}
use Rattle.sql_parse.specs.Limits.{passes}
use Rattle.sql_parse.specs.SentenceLimits.{IsWithinLimits}

-- a list of tokens says at most one sentence
abbrev pub AtMostOneSentence : Type 0
AtMostOneSentence =
    (ts : List Mark) (s other : Sentence) → IsSentence ts s → IsSentence ts other → s ≡ other

-- tokens are refused with at most one fault
abbrev pub AtMostOneFault : Type 0
AtMostOneFault =
    (ts : List Mark) (end : ℕ) (first second : Fault) → Refuses ts end first →
    Refuses ts end second → first ≡ second

-- tokens that are accepted are not refused
abbrev pub AcceptedIsNotRefused : Type 0
AcceptedIsNotRefused =
    (ts : List Mark) (end : ℕ) (s : Sentence) (fault : Fault) → Accepts ts s →
    Refuses ts end fault → ⊥

-- the tokens of a sentence pass no limit exactly where the sentence is within the limits
abbrev pub LimitsAreOfTheSentence : Type 0
LimitsAreOfTheSentence =
    (ts : List Mark) (s : Sentence) → IsSentence ts s → (passes ts ≡ false) ↔ IsWithinLimits s

-- tokens that pass a limit begin no sentence within the limits
abbrev pub PassedForGood : Type 0
PassedForGood =
    (front more : List Mark) (s : Sentence) → passes front ≡ true → IsSentence (front ++ more) s →
    IsWithinLimits s → ⊥

-- The factored productions, which one token of look-ahead reads, spell the same as the printed
-- ones: with any depth of parentheses and NOTs, and with as many as may be open.
abbrev pub FactoredSpellsTheSame : Type 0
FactoredSpellsTheSame = (ts : List Mark) (s : Sentence)
    → (IsSentence ts s ↔ Spells (Any factored.factor_by_operand) query ts s)
    × (IsShallow ts s ↔ Spells (Nested factored.factor_by_operand most_open) query ts s)
