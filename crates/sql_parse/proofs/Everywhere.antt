-- A test of all kinds of tokens holds at each.
use Rattle.std.proofs.Common.{◌≡◌, ℕ, zero, suc, Bool, true, false, ◌&&◌, ◌||◌, not, List, [], ◌∷◌, Option, Some}
use Rattle.std.proofs.Common.{None, refl}
use Rattle.std.specs.List.{list_all}
use Rattle.sql_text.specs.declared.word.Keyword.{Keyword}
use Rattle.sql_text.specs.declared.word.Keyword.TheVariants as word
use Rattle.sql_text.specs.declared.symbol.Symbol.{Symbol}
use Rattle.sql_text.specs.declared.symbol.Symbol.TheVariants as symbol
use Rattle.sql_text.specs.declared.token.TokenKind.{TokenKind}
use Rattle.sql_text.specs.declared.token.TokenKind.TheVariants as kind
use Rattle.grammar.proofs.Flags.{and-left, and-right}
use Rattle.grammar.proofs.Rules.{Covers, Disjoins}
use Rattle.sql_parse.proofs.EveryKind.{kinds}

abbrev nth : List TokenKind → ℕ → Option TokenKind
nth [] n = None
nth (k ∷ ks) zero = Some k
nth (k ∷ ks) (suc n) = nth ks n

holds_at : (p : TokenKind → Bool) (ks : List TokenKind) (n : ℕ) (k : TokenKind) → list_all p ks ≡ true →
    nth ks n ≡ Some k → p k ≡ true
holds_at p [] n k h e = cc
holds_at p (j ∷ ks) zero k h e = let w : j ≡ k = cc in let a = and-left (p j) (list_all p ks) h in rw (← w) a
holds_at p (j ∷ ks) (suc n) k h e = holds_at p ks n k (and-right (p j) (list_all p ks) h) e

word_everywhere : (p : TokenKind → Bool) → list_all p kinds ≡ true → (w : Keyword) → p (kind.Keyword w) ≡ true
word_everywhere p h word.Select = holds_at p kinds 0 (kind.Keyword word.Select) h refl
word_everywhere p h word.From = holds_at p kinds 1 (kind.Keyword word.From) h refl
word_everywhere p h word.Where = holds_at p kinds 2 (kind.Keyword word.Where) h refl
word_everywhere p h word.Inner = holds_at p kinds 3 (kind.Keyword word.Inner) h refl
word_everywhere p h word.Join = holds_at p kinds 4 (kind.Keyword word.Join) h refl
word_everywhere p h word.On = holds_at p kinds 5 (kind.Keyword word.On) h refl
word_everywhere p h word.And = holds_at p kinds 6 (kind.Keyword word.And) h refl
word_everywhere p h word.Or = holds_at p kinds 7 (kind.Keyword word.Or) h refl
word_everywhere p h word.Not = holds_at p kinds 8 (kind.Keyword word.Not) h refl
word_everywhere p h word.Is = holds_at p kinds 9 (kind.Keyword word.Is) h refl
word_everywhere p h word.Null = holds_at p kinds 10 (kind.Keyword word.Null) h refl
word_everywhere p h word.True = holds_at p kinds 11 (kind.Keyword word.True) h refl
word_everywhere p h word.False = holds_at p kinds 12 (kind.Keyword word.False) h refl
word_everywhere p h word.Unknown = holds_at p kinds 13 (kind.Keyword word.Unknown) h refl
word_everywhere p h word.In = holds_at p kinds 14 (kind.Keyword word.In) h refl
word_everywhere p h word.Between = holds_at p kinds 15 (kind.Keyword word.Between) h refl
word_everywhere p h word.Group = holds_at p kinds 16 (kind.Keyword word.Group) h refl
word_everywhere p h word.By = holds_at p kinds 17 (kind.Keyword word.By) h refl
word_everywhere p h word.As = holds_at p kinds 18 (kind.Keyword word.As) h refl
word_everywhere p h word.Count = holds_at p kinds 19 (kind.Keyword word.Count) h refl
word_everywhere p h word.Sum = holds_at p kinds 20 (kind.Keyword word.Sum) h refl
word_everywhere p h word.Date = holds_at p kinds 21 (kind.Keyword word.Date) h refl
word_everywhere p h word.Timestamp = holds_at p kinds 44 (kind.Keyword word.Timestamp) h refl
word_everywhere p h word.Time = holds_at p kinds 45 (kind.Keyword word.Time) h refl

symbol_everywhere : (p : TokenKind → Bool) → list_all p kinds ≡ true → (s : Symbol) → p (kind.Symbol s) ≡ true
symbol_everywhere p h symbol.LeftParenthesis = holds_at p kinds 27 (kind.Symbol symbol.LeftParenthesis) h refl
symbol_everywhere p h symbol.RightParenthesis = holds_at p kinds 28 (kind.Symbol symbol.RightParenthesis) h refl
symbol_everywhere p h symbol.Comma = holds_at p kinds 29 (kind.Symbol symbol.Comma) h refl
symbol_everywhere p h symbol.Period = holds_at p kinds 30 (kind.Symbol symbol.Period) h refl
symbol_everywhere p h symbol.Semicolon = holds_at p kinds 31 (kind.Symbol symbol.Semicolon) h refl
symbol_everywhere p h symbol.Asterisk = holds_at p kinds 32 (kind.Symbol symbol.Asterisk) h refl
symbol_everywhere p h symbol.Equal = holds_at p kinds 33 (kind.Symbol symbol.Equal) h refl
symbol_everywhere p h symbol.NotEqual = holds_at p kinds 34 (kind.Symbol symbol.NotEqual) h refl
symbol_everywhere p h symbol.Less = holds_at p kinds 35 (kind.Symbol symbol.Less) h refl
symbol_everywhere p h symbol.LessOrEqual = holds_at p kinds 36 (kind.Symbol symbol.LessOrEqual) h refl
symbol_everywhere p h symbol.Greater = holds_at p kinds 37 (kind.Symbol symbol.Greater) h refl
symbol_everywhere p h symbol.GreaterOrEqual = holds_at p kinds 38 (kind.Symbol symbol.GreaterOrEqual) h refl
symbol_everywhere p h symbol.Plus = holds_at p kinds 39 (kind.Symbol symbol.Plus) h refl
symbol_everywhere p h symbol.Minus = holds_at p kinds 40 (kind.Symbol symbol.Minus) h refl
symbol_everywhere p h symbol.Solidus = holds_at p kinds 41 (kind.Symbol symbol.Solidus) h refl
symbol_everywhere p h symbol.Percent = holds_at p kinds 42 (kind.Symbol symbol.Percent) h refl
symbol_everywhere p h symbol.Concatenation = holds_at p kinds 43 (kind.Symbol symbol.Concatenation) h refl

pub everywhere : (p : TokenKind → Bool) → list_all p kinds ≡ true → (k : TokenKind) → p k ≡ true
everywhere p h (kind.Keyword w) = word_everywhere p h w
everywhere p h (kind.Symbol s) = symbol_everywhere p h s
everywhere p h kind.LeftOut = holds_at p kinds 22 kind.LeftOut h refl
everywhere p h kind.Name = holds_at p kinds 23 kind.Name h refl
everywhere p h kind.DelimitedName = holds_at p kinds 24 kind.DelimitedName h refl
everywhere p h kind.String = holds_at p kinds 25 kind.String h refl
everywhere p h kind.Digits = holds_at p kinds 26 kind.Digits h refl

pub follows_by : (a b : Bool) → (not a || b) ≡ true → a ≡ true → b ≡ true
follows_by true b h e = h
follows_by false b h e = cc

never_both : (a b : Bool) → not (a && b) ≡ true → b ≡ true → a ≡ false
never_both true true h e = cc
never_both true false h e = cc
never_both false b h e = refl

pub covered : Covers kinds
covered p q h k e = follows_by (p k) (q k) (everywhere (λ k. not (p k) || q k) h k) e

pub apart : Disjoins kinds
apart p q h k e = never_both (p k) (q k) (everywhere (λ k. not (p k && q k)) h k) e
