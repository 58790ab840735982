-- Worked rows: the definitions, tried on texts whose tokens were worked out by hand.
use Rattle.std.proofs.Common.{ℕ, ◌≡◌, refl, List, [], ◌∷◌, Result, Ok, Err, map, codes}
use Rattle.scan_base.specs.declared.fault.Fault.{Fault}
use Rattle.scan_base.specs.declared.fault.Fault.TheVariants.{BadSql}
use Rattle.sql_text.specs.declared.symbol.Symbol.TheVariants as symbol
use Rattle.sql_text.specs.declared.token.TokenKind.{TokenKind}
use Rattle.sql_text.specs.declared.token.TokenKind.TheVariants as kind
use Rattle.sql_text.specs.declared.word.Keyword.TheVariants as word
use Rattle.sql_text.specs.Words.{word_kind}
use Rattle.sql_text.specs.Standard.{Lexeme}
use Rattle.sql_text.specs.Reading.{pair, single, mark_front, front_at, tokens_within, tokens_from, tokens_in}

-- where the tokens begin, and what they are
kinds : Result (List Lexeme) Fault → Result (List (ℕ × TokenKind)) Fault
kinds (Ok tokens) = Ok (map (λ (token : Lexeme). (token.start, token.kind)) tokens)
kinds (Err fault) = Err fault

spaces : kinds (tokens_in (codes "Select a")) ≡ Ok ((0, kind.Keyword word.Select) ∷ (7, kind.Name) ∷ [])
unfolding kinds tokens_in tokens_from tokens_within front_at word_kind
spaces = refl

comment : kinds (tokens_in (codes "a= --1")) ≡ Ok ((0, kind.Name) ∷ (1, kind.Symbol symbol.Equal) ∷ [])
unfolding kinds tokens_in tokens_from tokens_within front_at mark_front pair single word_kind
comment = refl

unclosed : tokens_in (codes "t 'x''") ≡ Err (BadSql 2)
unfolding tokens_in tokens_from tokens_within front_at word_kind
unclosed = refl

empty_name : tokens_in (codes "t,\"\"") ≡ Err (BadSql 2)
unfolding tokens_in tokens_from tokens_within front_at mark_front pair single word_kind
empty_name = refl
