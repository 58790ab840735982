-- Inside: what the parser of predicates answers, step by step.
use Rattle.std.specs.Prelude.{ℕ, ◌-◌, ◌==◌, Bool, true, false, if◌then◌else◌, List, [], ◌∷◌, ◌++◌}
use Rattle.std.specs.Prelude.{Some, None, Ok, Err}
use Rattle.scan_base.specs.declared.truth.Truth.{Truth}
use Rattle.scan_base.specs.declared.truth.Truth.TheVariants as truth
use Rattle.scan_base.specs.declared.predicate.Operand.{Operand}
use Rattle.scan_base.specs.Predicate.{conjunction, disjunction, negation, truth_test, comparing}
use Rattle.scan_base.specs.Predicate.{between, membership}
use Rattle.scan_base.specs.Predicate.{null_test}
use Rattle.sql_text.specs.declared.word.Keyword.TheVariants as word
use Rattle.sql_text.specs.declared.symbol.Symbol.TheVariants as symbol
use Rattle.grammar.specs.Rule.{many}
use Rattle.grammar.specs.Reading.{reads, read}
use Rattle.sql_query.specs.declared.query.Term.{Term}
use Rattle.sql_parse.specs.declared.refusal.Refusal.TheVariants as refusal
use Rattle.sql_parse.specs.Tokens.{Mark, is_word, is_symbol}
use Rattle.sql_parse.specs.Answers.{Answer, seen, ◌>>=◌}
use Rattle.sql_parse.specs.Productions.{operand}
use Rattle.sql_parse.specs.PredicateProductions.{inner}
use Rattle.sql_parse.specs.Notation.{Condition, a_word, a_symbol, ◌⊳◌, joined}
use Rattle.sql_parse.specs.PredicateProductions.{conj}
use Rattle.sql_parse.specs.FactoredGrammar.{factor_by_operand}
use Rattle.sql_parse.specs.Steps.{at, token_at, operand_at, compare_at}

unfoldable pub negated_at : List Mark → Answer Bool
negated_at ts =
    if at (is_word word.Not) ts then (do
      t ← token_at (is_word word.Not) ts
      Ok (true, t.1)) else Ok (false, ts)

unfoldable pub truth_at : List Mark → Answer Truth
truth_at ts =
    if at (is_word word.True) ts then (do
      t ← token_at (is_word word.True) ts
      Ok (truth.True, t.1)) else (if at (is_word word.False) ts then (do
        t ← token_at (is_word word.False) ts
        Ok (truth.False, t.1)) else (do
          t ← token_at (is_word word.Unknown) ts
          Ok (truth.Unknown, t.1)))

unfoldable pub compared_at : Operand Term → List Mark → Answer Condition
compared_at a ts = do
  o ← compare_at ts
  b ← operand_at o.1
  Ok (comparing o.0 a b.0, b.1)

unfoldable pub nulled_at : Operand Term → List Mark → Answer Condition
nulled_at a ts = do
  i ← token_at (is_word word.Is) ts
  n ← negated_at i.1
  z ← token_at (is_word word.Null) n.1
  Ok (null_test n.0 a, z.1)

unfoldable pub ranged_at : Bool → Operand Term → List Mark → Answer Condition
ranged_at n a ts = do
  t ← token_at (is_word word.Between) ts
  low ← operand_at t.1
  u ← token_at (is_word word.And) low.1
  high ← operand_at u.1
  Ok (between n a low.0 high.0, high.1)

-- more operands after those in front
unfoldable pub operands_at : List (Operand Term) → List Mark → Answer (List (Operand Term))
operands_at front ts =
    seen (reads None (many (a_symbol symbol.Comma ⊳ operand)) ts) >>= λ os. Ok (front ++ os.0, os.1)

unfoldable pub among_at : Bool → Operand Term → List Mark → Answer Condition
among_at n a ts = do
  t ← token_at (is_word word.In) ts
  o ← token_at (is_symbol symbol.LeftParenthesis) t.1
  first ← operand_at o.1
  all ← operands_at (first.0 ∷ []) first.1
  c ← token_at (is_symbol symbol.RightParenthesis) all.1
  Ok (membership n a all.0, c.1)

unfoldable pub tail_at : Operand Term → List Mark → Answer Condition
tail_at a ts =
    if at (is_word word.Is) ts then nulled_at a ts else (if at (is_word word.Not) ts then (do
      t ← token_at (is_word word.Not) ts
      if at (is_word word.Between) t.1 then ranged_at true a t.1 else among_at true a t.1)
    else (if at (is_word word.Between) ts then ranged_at false a ts
    else (if at (is_word word.In) ts then among_at false a ts else compared_at a ts)))

-- a factor, where d more may be opened
unfoldable pub factor_at : ℕ → List Mark → Answer Condition
factor_at d ts = seen (read factor_by_operand d ts)

-- more factors after p
unfoldable pub ands_at : ℕ → Condition → List Mark → Answer Condition
ands_at d p ts = seen (reads (Some (read factor_by_operand d)) (many (a_word word.And ⊳ inner)) ts)
    >>= λ qs. Ok (joined conjunction p qs.0, qs.1)

unfoldable pub conj_at : ℕ → List Mark → Answer Condition
conj_at d ts = do
  p ← factor_at d ts
  ands_at d p.0 p.1

unfoldable pub ors_at : ℕ → Condition → List Mark → Answer Condition
ors_at d p ts = seen (reads (Some (read factor_by_operand d)) (many (a_word word.Or ⊳ conj)) ts)
    >>= λ qs. Ok (joined disjunction p qs.0, qs.1)

unfoldable pub pred_at : ℕ → List Mark → Answer Condition
pred_at d ts = do
  p ← conj_at d ts
  ors_at d p.0 p.1

-- a predicate in parentheses, where d more may be opened
unfoldable pub inside_at : ℕ → List Mark → Answer Condition
inside_at d ts =
    if d == 0 then Err refusal.TooDeep else (do
      o ← token_at (is_symbol symbol.LeftParenthesis) ts
      p ← pred_at (d - 1) o.1
      c ← token_at (is_symbol symbol.RightParenthesis) p.1
      Ok (p.0, c.1))

-- an operand and what follows it
unfoldable pub form_at : List Mark → Answer Condition
form_at ts = do
  a ← operand_at ts
  tail_at a.0 a.1

unfoldable pub primary_at : ℕ → List Mark → Answer Condition
primary_at d ts = if at (is_symbol symbol.LeftParenthesis) ts then inside_at d ts else form_at ts

-- IS [NOT] and a truth value, after p
unfoldable pub tested_at : Condition → List Mark → Answer Condition
tested_at p ts = do
  i ← token_at (is_word word.Is) ts
  n ← negated_at i.1
  t ← truth_at n.1
  Ok (truth_test n.0 t.0 p, t.1)

unfoldable pub test_at : ℕ → List Mark → Answer Condition
test_at d ts = do
  p ← primary_at d ts
  if at (is_word word.Is) p.1 then tested_at p.0 p.1 else Ok (p.0, p.1)

-- NOT and a factor, where d more may be opened
unfoldable pub negation_at : ℕ → List Mark → Answer Condition
negation_at d ts =
    if d == 0 then Err refusal.TooDeep else (do
      t ← token_at (is_word word.Not) ts
      p ← factor_at (d - 1) t.1
      Ok (negation p.0, p.1))
