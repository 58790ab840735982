-- What parsing answers.
use Rattle.std.specs.Prelude.{◌≡◌, ◌≢◌, ℕ, true, false, ◌⊎◌, if◌then◌else◌, List, []}
use Rattle.std.specs.Prelude.{◌∷◌, ◌++◌, map, length, Result, Ok, Err}
use Rattle.scan_base.specs.Limits.{most_open}
use Rattle.scan_base.specs.declared.fault.Fault.{Fault}
use Rattle.scan_base.specs.declared.fault.Fault.TheVariants.{OutOfMemory, LimitReached, NotInSubset}
use Rattle.scan_base.specs.declared.fault.Fault.TheVariants.{BadSql}
use Rattle.sql_text.specs.Standard.{Lexeme}
use Rattle.number_words.specs.LiteralWords.{worded_tokens_in as tokens_in}
use Rattle.sql_text.specs.Words.{is_left_out}
use Rattle.grammar.specs.Rule.{Language, Spells, Nested, Any}
use Rattle.grammar.specs.Sentence.{Begins, Offends}
use Rattle.sql_query.specs.Sentence.{Sentence, is_left_out_whole}
use Rattle.sql_parse.specs.Tokens.{Mark, mark_of}
use Rattle.sql_parse.specs.PredicateProductions.{factor}
use Rattle.sql_parse.specs.Clauses.{query}
use Rattle.sql_parse.specs.Limits.{passes}

-- the tokens are a query, which says the sentence
abbrev pub IsSentence : Language Mark Sentence
IsSentence = Spells (Any factor) query

-- the same, where no more predicate parentheses and prefix NOTs are open at once than may be
abbrev pub IsShallow : Language Mark Sentence
IsShallow = Spells (Nested factor most_open) query

-- ---- the answer

-- the tokens are this sentence and no other, pass no limit, and are not left out
pub record Accepts (ts : List Mark) (s : Sentence) : Type 0 where
  pub shallow : IsShallow ts s
  pub only : (other : Sentence) → IsSentence ts other → other ≡ s
  pub within : passes ts ≡ false
  pub whole : is_left_out_whole s ≡ false

-- Tokens from the first on begin a sentence, and pass a limit.
pub record PassesLimit (ts : List Mark) : Type 0 where
  pub front : List Mark
  pub rest : List Mark
  pub splits : ts ≡ front ++ rest
  pub begins : Begins IsSentence front
  pub past : (Begins IsShallow front → ⊥) ⊎ (passes front ≡ true)

-- The first token of the place offends, or where it has none the end of the text, and the tokens
-- before it pass no limit.
pub record HasOffender (ts place : List Mark) : Type 0 where
  pub offends : Offends IsShallow IsSentence ts place
  pub counts : passes offends.front ≡ false

-- The tokens are a sentence, pass no limit, and are left out.
pub record HasLeftOut (ts : List Mark) : Type 0 where
  pub sentence : Sentence
  pub shallow : IsShallow ts sentence
  pub within : passes ts ≡ false
  pub whole : is_left_out_whole sentence ≡ true

-- the fault of the first token, which offends, or the other one where there is none
abbrev pub fault_or : Fault → List Mark → Fault
fault_or other [] = other
fault_or other (t ∷ ts) = if is_left_out t.0 then NotInSubset else BadSql t.1.0

-- Why tokens that end at `end` are refused: they pass a limit, have an offender, or are left out as
-- a whole.
abbrev pub Refuses : List Mark → ℕ → Fault → Type 0
Refuses ts end fault =
    (PassesLimit ts × (fault ≡ LimitReached))
    ⊎ (((place : List Mark) × HasOffender ts place × (fault ≡ fault_or (BadSql end) place))
    ⊎ (HasLeftOut ts × (fault ≡ NotInSubset)))

-- what parsing the tokens of a text that ends at `end` gave, seen by `view`
abbrev pub Answered : {X : Type 0} → (X → Sentence) → List Mark → ℕ → Result X Fault → Type 0
Answered view ts end (Ok x) = Accepts ts (view x)
Answered view ts end (Err fault) = fault ≢ OutOfMemory → Refuses ts end fault

-- what parsing a text gave: a fault of its tokens, or what its tokens say
abbrev pub Parsed : {X : Type 0} → (X → Sentence) → List ℕ → Result X Fault → Type 0
Parsed view text (Ok x) =
    (lexemes : List Lexeme) × (tokens_in text ≡ Ok lexemes) × Accepts (map mark_of lexemes) (view x)
Parsed view text (Err fault) =
    fault ≢ OutOfMemory → (tokens_in text ≡ Err fault)
    ⊎ ((lexemes : List Lexeme) × (tokens_in text ≡ Ok lexemes)
    × Refuses (map mark_of lexemes) (length text) fault)
