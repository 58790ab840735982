-- Inside: what the parser of a query answers, step by step.
use Rattle.std.specs.Prelude.{ℕ, if◌then◌else◌, List, [], ◌∷◌, length, Option, Some, None, Result}
use Rattle.std.specs.Prelude.{Ok, Err}
use Rattle.sql_text.specs.declared.word.Keyword.TheVariants as word
use Rattle.sql_text.specs.declared.symbol.Symbol.TheVariants as symbol
use Rattle.sql_query.specs.declared.query.ColumnName.{ColumnName}
use Rattle.sql_parse.specs.declared.refusal.Refusal.{Refusal}
use Rattle.sql_parse.specs.declared.refusal.Refusal.TheVariants as refusal
use Rattle.sql_query.specs.Sentence.{Sentence}
use Rattle.sql_parse.specs.Tokens.{Mark, is_word, is_symbol}
use Rattle.sql_parse.specs.Answers.{Answer, ◌>>=◌}
use Rattle.sql_parse.specs.Notation.{Condition}
use Rattle.sql_parse.specs.Steps.{at, token_at}
use Rattle.sql_parse.specs.PredicateSteps.{pred_at}
use Rattle.sql_parse.specs.ClauseSteps.{list_at, source_at, group_at}

-- WHERE, where d parentheses and prefix NOTs may be open
unfoldable pub filter_at : ℕ → List Mark → Answer (Option Condition)
filter_at d ts =
    if at (is_word word.Where) ts then (do
      t ← token_at (is_word word.Where) ts
      p ← pred_at d t.1
      Ok (Some p.0, p.1)) else Ok (None, ts)

unfoldable pub ending_at : ℕ → List Mark → Answer (Option Condition × List ColumnName)
ending_at d ts = do
  f ← filter_at d ts
  g ← group_at f.1
  if at (is_symbol symbol.Semicolon) g.1 then (do
    t ← token_at (is_symbol symbol.Semicolon) g.1
    Ok ((f.0, g.0), t.1)) else Ok ((f.0, g.0), g.1)

unfoldable pub query_at : ℕ → List Mark → Answer Sentence
query_at d ts = do
  t ← token_at (is_word word.Select) ts
  l ← list_at t.1
  s ← source_at l.1
  e ← ending_at d s.1
  Ok (record { select = l.0; first = s.0.0; joins = s.0.1; filter = e.0.0; group_by = e.0.1 }, e.1)

abbrev pub finished : Sentence × List Mark → Result Sentence Refusal
finished (s, []) = Ok s
finished (s, t ∷ ts) = Err (refusal.Offends (length (t ∷ ts)))

abbrev pub ended : Answer Sentence → Result Sentence Refusal
ended (Ok x) = finished x
ended (Err e) = Err e

-- the tokens, all of them
unfoldable pub whole_at : ℕ → List Mark → Result Sentence Refusal
whole_at d ts = ended (query_at d ts)
