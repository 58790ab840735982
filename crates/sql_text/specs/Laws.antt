-- What holds of all texts.
use Rattle.std.specs.Prelude.{◌≡◌, ◌↔◌, ◌⊎◌, ℕ, List, Ok, Err}
use Rattle.scan_base.specs.declared.fault.Fault.TheVariants.{BadSql}
use Rattle.sql_text.specs.Values.{quoted, unquoted}
use Rattle.sql_text.specs.Standard.{Lexeme, AreTokens, HasFaultAt}
use Rattle.sql_text.specs.Reading.{tokens_from}

-- the texts that read as a list of tokens are that list by their pieces, and no others are
abbrev pub ReadingKeepsPieces : Type 0
ReadingKeepsPieces =
    (text : List ℕ) (tokens : List Lexeme) →
    (tokens_from 0 text ≡ Ok tokens) ↔ AreTokens text tokens

-- the texts that are refused at a byte have their first fault there, and no others have
abbrev pub RefusalIsFirstFault : Type 0
RefusalIsFirstFault =
    (text : List ℕ) (position : ℕ) →
    (tokens_from 0 text ≡ Err (BadSql position)) ↔ HasFaultAt text position

-- a text is at most one list of tokens
abbrev pub AtMostOneList : Type 0
AtMostOneList =
    (text : List ℕ) (tokens others : List Lexeme) → AreTokens text tokens → AreTokens text others →
    tokens ≡ others

-- a text has at most one first fault
abbrev pub AtMostOneLexicalFault : Type 0
AtMostOneLexicalFault =
    (text : List ℕ) (position other : ℕ) → HasFaultAt text position → HasFaultAt text other →
    position ≡ other

-- a text is a list of tokens, or has a fault
abbrev pub TokensOrFault : Type 0
TokensOrFault =
    (text : List ℕ) →
    ((tokens : List Lexeme) × AreTokens text tokens) ⊎ ((position : ℕ) × HasFaultAt text position)

-- a value that is written between quotes reads back
abbrev pub QuotedReadsBack : Type 0
QuotedReadsBack = (quote : ℕ) (value : List ℕ) → unquoted quote (quoted quote value) ≡ value
