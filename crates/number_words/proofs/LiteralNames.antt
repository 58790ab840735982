-- Names stay texts of a byte or more among tokens with the words of literals.
use Rattle.std.proofs.Common.{ℕ, Bool, true, false, if◌then◌else◌, List, [], ◌∷◌, codes}
use Rattle.std.specs.Prelude.{All}
use Rattle.std.specs.Str.{str_eq_ignore_ascii_case}
use Rattle.std.proofs.lemmas.List.Elements.{All-nil, All-cons, All-head, All-tail}
use Rattle.sql_text.specs.declared.token.TokenKind.{TokenKind}
use Rattle.sql_text.specs.declared.token.TokenKind.TheVariants as kind
use Rattle.sql_text.specs.declared.word.Keyword.TheVariants as word
use Rattle.sql_text.specs.Standard.{Lexeme}
use Rattle.sql_text.specs.Calls.{SaysText}
use Rattle.number_words.specs.LiteralWords.{begins_with_string, kind_before, with_words}

abbrev token : TokenKind → ℕ → List ℕ → Lexeme
token k start text = record { kind = k; start = start; text = text }

-- a name that is no word of a literal is the name
still_name : (stamp time : Bool) (start : ℕ) (text : List ℕ) → SaysText (token kind.Name start text) →
    SaysText (token (if stamp then kind.Keyword word.Timestamp else (if time then kind.Keyword word.Time else kind.Name)) start text)
still_name true time start text says = λ n. cc
still_name false true start text says = λ n. cc
still_name false false start text says = says

still_says : (k : TokenKind) (start : ℕ) (text : List ℕ) (string : Bool) → SaysText (token k start text) →
    SaysText (token (kind_before k text string) start text)
still_says kind.Name start text true says = still_name (str_eq_ignore_ascii_case text (codes "TIMESTAMP")) (str_eq_ignore_ascii_case text (codes "TIME")) start text says
still_says kind.Name start text false says = says
still_says (kind.Keyword w) start text string says = says
still_says (kind.Symbol s) start text string says = says
still_says kind.LeftOut start text string says = says
still_says kind.DelimitedName start text string says = says
still_says kind.String start text string says = says
still_says kind.Digits start text string says = says

pub names_kept : (ts : List Lexeme) → All SaysText ts → All SaysText (with_words ts)
names_kept [] all = All-nil SaysText
names_kept (t ∷ ts) all =
    All-cons SaysText _ (with_words ts) (still_says t.kind t.start t.text (begins_with_string ts) (All-head SaysText t ts all))
    (names_kept ts (All-tail SaysText t ts all))
