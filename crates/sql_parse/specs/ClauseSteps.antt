-- Inside: what the parser of clauses answers, step by step.
use Rattle.std.specs.Prelude.{ℕ, if◌then◌else◌, List, [], ◌∷◌, ◌++◌, Option, Some, None, Ok}
use Rattle.sql_text.specs.declared.word.Keyword.TheVariants as word
use Rattle.sql_text.specs.declared.symbol.Symbol.TheVariants as symbol
use Rattle.grammar.specs.Rule.{many}
use Rattle.grammar.specs.Reading.{reads}
use Rattle.sql_query.specs.declared.query.ColumnName.{ColumnName}
use Rattle.sql_query.specs.declared.query.Expression.{Expression}
use Rattle.sql_query.specs.declared.query.Expression.TheVariants as expression
use Rattle.sql_query.specs.declared.query.SelectItem.{SelectItem}
use Rattle.sql_query.specs.declared.query.Select.{Select}
use Rattle.sql_query.specs.declared.query.Select.TheVariants as select
use Rattle.sql_query.specs.declared.query.Place.{Place}
use Rattle.sql_query.specs.declared.query.Equality.{Equality}
use Rattle.sql_query.specs.declared.query.Join.{Join}
use Rattle.sql_text.specs.Words.{is_name}
use Rattle.sql_parse.specs.Tokens.{Mark, is_word, is_symbol}
use Rattle.sql_parse.specs.Answers.{Answer, seen, ◌>>=◌}
use Rattle.sql_parse.specs.Productions.{column}
use Rattle.sql_parse.specs.Clauses.{item, equal, join}
use Rattle.sql_parse.specs.Notation.{a_word, a_symbol, ◌⊳◌}
use Rattle.sql_parse.specs.Steps.{at, token_at, name_at, column_at}

-- [ [AS] name ]
unfoldable pub alias_at : List Mark → Answer (Option (List ℕ))
alias_at ts =
    if at (is_word word.As) ts then (do
      t ← token_at (is_word word.As) ts
      n ← name_at t.1
      Ok (Some n.0, n.1)) else (if at is_name ts then (do
        n ← name_at ts
        Ok (Some n.0, n.1)) else Ok (None, ts))

-- "*" | column, within COUNT
unfoldable pub counted_at : List Mark → Answer Expression
counted_at ts =
    if at (is_symbol symbol.Asterisk) ts then (do
      t ← token_at (is_symbol symbol.Asterisk) ts
      Ok (expression.CountRows, t.1)) else (do
        c ← column_at ts
        Ok (expression.Count c.0, c.1))

unfoldable pub selection_at : List Mark → Answer Expression
selection_at ts =
    if at (is_word word.Count) ts then (do
      t ← token_at (is_word word.Count) ts
      o ← token_at (is_symbol symbol.LeftParenthesis) t.1
      c ← counted_at o.1
      e ← token_at (is_symbol symbol.RightParenthesis) c.1
      Ok (c.0, e.1)) else (if at (is_word word.Sum) ts then (do
        t ← token_at (is_word word.Sum) ts
        o ← token_at (is_symbol symbol.LeftParenthesis) t.1
        c ← column_at o.1
        e ← token_at (is_symbol symbol.RightParenthesis) c.1
        Ok (expression.Sum c.0, e.1)) else (do
          c ← column_at ts
          Ok (expression.Column c.0, c.1)))

unfoldable pub item_at : List Mark → Answer SelectItem
item_at ts = do
  s ← selection_at ts
  a ← alias_at s.1
  Ok (record { expression = s.0; alias = a.0 }, a.1)

-- more items after those in front
unfoldable pub items_at : List SelectItem → List Mark → Answer (List SelectItem)
items_at front ts =
    seen (reads None (many (a_symbol symbol.Comma ⊳ item)) ts) >>= λ xs. Ok (front ++ xs.0, xs.1)

unfoldable pub list_at : List Mark → Answer Select
list_at ts =
    if at (is_symbol symbol.Asterisk) ts then (do
      t ← token_at (is_symbol symbol.Asterisk) ts
      Ok (select.All, t.1)) else (do
        first ← item_at ts
        all ← items_at (first.0 ∷ []) first.1
        Ok (select.List all.0, all.1))

unfoldable pub place_at : List Mark → Answer Place
place_at ts = do
  n ← name_at ts
  a ← alias_at n.1
  Ok (record { table = n.0; alias = a.0 }, a.1)

unfoldable pub equal_at : List Mark → Answer Equality
equal_at ts = do
  left ← column_at ts
  t ← token_at (is_symbol symbol.Equal) left.1
  right ← column_at t.1
  Ok (record { left = left.0; right = right.0 }, right.1)

-- more equalities after those in front
unfoldable pub equals_at : List Equality → List Mark → Answer (List Equality)
equals_at front ts =
    seen (reads None (many (a_word word.And ⊳ equal)) ts) >>= λ xs. Ok (front ++ xs.0, xs.1)

-- JOIN place ON equal { AND equal }
unfoldable pub joined_at : List Mark → Answer Join
joined_at ts = do
  t ← token_at (is_word word.Join) ts
  p ← place_at t.1
  o ← token_at (is_word word.On) p.1
  first ← equal_at o.1
  all ← equals_at (first.0 ∷ []) first.1
  Ok (record { place = p.0; on = all.0 }, all.1)

unfoldable pub join_at : List Mark → Answer Join
join_at ts =
    if at (is_word word.Inner) ts then (do
      t ← token_at (is_word word.Inner) ts
      joined_at t.1) else joined_at ts

-- more joins after those in front
unfoldable pub joins_at : List Join → List Mark → Answer (List Join)
joins_at front ts = seen (reads None (many join) ts) >>= λ xs. Ok (front ++ xs.0, xs.1)

unfoldable pub source_at : List Mark → Answer (Place × List Join)
source_at ts = do
  t ← token_at (is_word word.From) ts
  p ← place_at t.1
  js ← joins_at [] p.1
  Ok ((p.0, js.0), js.1)

-- more columns after those in front
unfoldable pub columns_at : List ColumnName → List Mark → Answer (List ColumnName)
columns_at front ts =
    seen (reads None (many (a_symbol symbol.Comma ⊳ column)) ts) >>= λ xs. Ok (front ++ xs.0, xs.1)

unfoldable pub group_at : List Mark → Answer (List ColumnName)
group_at ts =
    if at (is_word word.Group) ts then (do
      t ← token_at (is_word word.Group) ts
      b ← token_at (is_word word.By) t.1
      first ← column_at b.1
      columns_at (first.0 ∷ []) first.1) else Ok ([], ts)
