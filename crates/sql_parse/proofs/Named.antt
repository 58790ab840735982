-- The names of a sentence are those of its tokens.
use Rattle.std.proofs.Common.{◌≡◌, ℕ, ◌≤◌, Bool, true, false, List, [], ◌∷◌, length, map, Option, Some, None, inl}
use Rattle.std.proofs.Common.{inr, sym, subst, arith}
use Rattle.std.specs.Prelude.{IfSome, IfOk, All, ◌||◌, ◌&&◌, nat_lt, Result, Ok, Err}
use Rattle.std.proofs.lemmas.Bool.{ltb-false}
use Rattle.std.proofs.lemmas.List.Elements.{All-nil, All-cons, All-head, All-tail}
use Rattle.scan_base.specs.declared.fault.Fault.{Fault}
use Rattle.scan_base.specs.declared.truth.Truth.{Truth}
use Rattle.scan_base.specs.declared.comparison.Comparison.{Comparison}
use Rattle.scan_base.specs.declared.predicate.Operand.{Operand}
use Rattle.scan_base.specs.declared.predicate.Operand.TheVariants.{Column}
use Rattle.scan_base.specs.Predicate.{conjunction, disjunction, negation, comparing, between, membership, null_test}
use Rattle.sql_text.specs.declared.word.Keyword.TheVariants as word
use Rattle.sql_text.specs.declared.symbol.Symbol.TheVariants as symbol
use Rattle.sql_text.specs.declared.token.Token.{Token}
use Rattle.sql_text.specs.Words.{is_name}
use Rattle.sql_text.specs.Calls.{said, SaysText, lexeme_of}
use Rattle.sql_query.specs.declared.query.ColumnName.{ColumnName}
use Rattle.sql_query.specs.declared.query.Term.{Term}
use Rattle.sql_query.specs.declared.query.Term.TheVariants as term
use Rattle.sql_query.specs.declared.query.Expression.{Expression}
use Rattle.sql_query.specs.declared.query.Expression.TheVariants as expression
use Rattle.sql_query.specs.declared.query.Select.{Select}
use Rattle.sql_query.specs.declared.query.Select.TheVariants as select
use Rattle.sql_query.specs.declared.query.Place.{Place}
use Rattle.sql_query.specs.declared.query.Equality.{Equality}
use Rattle.sql_query.specs.declared.query.Join.{Join}
use Rattle.sql_query.specs.Sentence.{Sentence}
use Rattle.sql_query.specs.Names.{IsName, IsColumnName, ExpressionHasNames, ItemHasNames, SelectHasNames}
use Rattle.sql_query.specs.Names.{PlaceHasNames, EqualityHasNames, JoinHasNames, OperandHasNames, ConditionHasNames}
use Rattle.sql_query.specs.Names.{QueryHasNames}
use Rattle.grammar.specs.Rule.{empty, both, either, many, make, Language, Spells, Any}
use Rattle.grammar.proofs.Keeping.{Keeps, keeps_one, keeps_empty, keeps_both, keeps_either, keeps_many, keeps_make}
use Rattle.grammar.proofs.Keeping.{keeps_opened, keeps_any}
use Rattle.sql_parse.specs.Limits.{TallyAt, counted, is_past, is_long_name, passes_from, passes}
use Rattle.sql_parse.specs.Parse.{IsSentence, Accepts, Answered}
use Rattle.sql_parse.specs.Notation.{Condition, Of, a_word, a_symbol, symbol_for, ◌⊳◌, ◌⊲◌, maybe, listed, joined}
use Rattle.sql_parse.specs.Productions.{name, column_name, column, operand, compare, negated}
use Rattle.sql_parse.specs.PredicateProductions.{inner, conj, pred}
use Rattle.sql_parse.specs.PredicateProductions.{comparison_of, range_of, membership_of}
use Rattle.sql_parse.specs.PredicateProductions.{null_test_of, simple, primary_of}
use Rattle.sql_parse.specs.PredicateProductions.{tested, truth_value, test_of, factor}
use Rattle.sql_parse.specs.Clauses.{alias, selection, item, list, place}
use Rattle.sql_parse.specs.Clauses.{equal, join, group, filter, source, ending, query}
use Rattle.sql_parse.specs.Tokens.{Mark, mark, marks, value_of, is_word, is_symbol, name_token, word_token}
use Rattle.sql_parse.specs.Tokens.{symbol_token}
use Rattle.sql_parse.proofs.Printed.{sentence_of_shallow}
use Rattle.grammar.proofs.Flags.{or-left, or-right}

-- a token that is a name says one
abbrev Named : Mark → Type 0
Named t = is_name t.0 ≡ true → IsName (value_of t)

abbrev Anything : {A : Type 0} → A → Type 0
Anything x = Unit {0}

column_named : (first : List ℕ) (second : Option (List ℕ)) → IsName first → IfSome second IsName →
    IsColumnName (column_name first second)
column_named first None n m = record { place = tt; name = n }
column_named first (Some second) n m = record { place = n; name = m }

joined_named : (f : Condition → Condition → Condition) →
    ((p q : Condition) → ConditionHasNames p → ConditionHasNames q → ConditionHasNames (f p q)) →
    (p : Condition) (qs : List Condition) → ConditionHasNames p → All ConditionHasNames qs →
    ConditionHasNames (joined f p qs)
joined_named f by p [] n m = n
joined_named f by p (q ∷ qs) n m =
    joined_named f by (f p q) qs (by p q n (All-head ConditionHasNames q qs m)) (All-tail ConditionHasNames q qs m)

tested_named : (p : Condition) (test : Option (Bool × Truth)) → ConditionHasNames p → ConditionHasNames (tested p test)
tested_named p None n = n
tested_named p (Some test) n = n

module _ (D : Language Mark Condition) where
  abbrev Has : {A : Type 0} → Of A → (A → Type 0) → Type 0
  Has g Q = Keeps Named (Spells D g) Q

  nothing : {A : Type 0} (g : Of A) → Has g Anything
  nothing g ts v q a = tt

  behind : {A B : Type 0} (g : Of A) (h : Of B) (Q : B → Type 0) → Has h Q → Has (g ⊳ h) Q
  behind {A} {B} g h Q second =
      keeps_make Named D (λ (p : A × B). p.1) (both g h) (λ (p : A × B). Anything p.0 × Q p.1) Q
      (keeps_both Named D g h Anything Q (nothing g) second) (λ p n. n.1)

  before : {A B : Type 0} (g : Of A) (h : Of B) (Q : A → Type 0) → Has g Q → Has (g ⊲ h) Q
  before {A} {B} g h Q first =
      keeps_make Named D (λ (p : A × B). p.0) (both g h) (λ (p : A × B). Q p.0 × Anything p.1) Q
      (keeps_both Named D g h Q Anything first (nothing h)) (λ p n. n.0)

  if_there : {A : Type 0} (g : Of A) (Q : A → Type 0) → Has g Q → Has (maybe g) (λ v. IfSome v Q)
  if_there {A} g Q here =
      keeps_either Named D (make Some g) (empty None) (λ v. IfSome v Q)
      (keeps_make Named D Some g Q (λ v. IfSome v Q) here (λ x n. n))
      (keeps_empty Named D None (λ v. IfSome v Q) tt)

  each : {A : Type 0} (separator : Of (Unit {0})) (g : Of A) (Q : A → Type 0) → Has g Q →
      Has (listed separator g) (λ xs. (1 ≤ length xs) × All Q xs)
  each {A} separator g Q one_by_one =
      keeps_make Named D (λ (p : A × List A). p.0 ∷ p.1) (both g (many (separator ⊳ g)))
      (λ (p : A × List A). Q p.0 × All Q p.1) (λ xs. (1 ≤ length xs) × All Q xs)
      (keeps_both Named D g (many (separator ⊳ g)) Q (All Q) one_by_one
      (keeps_many Named D (separator ⊳ g) Q (behind separator g Q one_by_one)))
      (λ p n. (omega arith, All-cons Q p.0 p.1 n.0 n.1))

  -- ---- operands

  has_name : Has name IsName
  unfolding name
  has_name = keeps_one Named D is_name (λ t. Some (value_of t)) name_token IsName
      (λ t v p e n. let same : value_of t ≡ v = cc in subst IsName same (n p))

  has_column : Has column IsColumnName
  unfolding column
  has_column =
      keeps_make Named D (λ (p : List ℕ × Option (List ℕ)). column_name p.0 p.1)
      (both name (maybe (a_symbol symbol.Period ⊳ name)))
      (λ p. IsName p.0 × IfSome p.1 IsName) IsColumnName
      (keeps_both Named D name (maybe (a_symbol symbol.Period ⊳ name)) IsName (λ v. IfSome v IsName) has_name
      (if_there (a_symbol symbol.Period ⊳ name) IsName (behind (a_symbol symbol.Period) name IsName has_name)))
      (λ p n. column_named p.0 p.1 n.0 n.1)

  has_operand : Has operand OperandHasNames
  unfolding operand
  has_operand ts v (inl q) a =
      keeps_make Named D (λ (n : ColumnName). Column (term.Name n)) column IsColumnName OperandHasNames has_column (λ x n. n)
      ts v q a
  has_operand ts v (inr q) a = subst OperandHasNames (sym q.1) tt

  -- ---- predicates

  has_comparison : Has comparison_of ConditionHasNames
  unfolding comparison_of
  has_comparison =
      keeps_make Named D (λ (p : Operand Term × (Comparison × Operand Term)). comparing p.1.0 p.0 p.1.1)
      (both operand (both compare operand))
      (λ p. OperandHasNames p.0 × (Anything p.1.0 × OperandHasNames p.1.1)) ConditionHasNames
      (keeps_both Named D operand (both compare operand) OperandHasNames (λ p. Anything p.0 × OperandHasNames p.1)
      has_operand
      (keeps_both Named D compare operand Anything OperandHasNames (nothing compare) has_operand))
      (λ p n. (n.0, n.1.1))

  abbrev limits : Of (Operand Term × Operand Term)
  limits = both operand (a_word word.And ⊳ operand)

  has_range : Has range_of ConditionHasNames
  unfolding range_of
  has_range =
      keeps_make Named D (λ (p : Operand Term × (Bool × (Operand Term × Operand Term))). between
      p.1.0 p.0 p.1.1.0 p.1.1.1)
      (both operand (both negated (a_word word.Between ⊳ limits)))
      (λ p. OperandHasNames p.0 × (Anything p.1.0 × (OperandHasNames p.1.1.0 × OperandHasNames p.1.1.1)))
      ConditionHasNames
      (keeps_both Named D operand (both negated (a_word word.Between ⊳ limits)) OperandHasNames
      (λ p. Anything p.0 × (OperandHasNames p.1.0 × OperandHasNames p.1.1)) has_operand
      (keeps_both Named D negated (a_word word.Between ⊳ limits) Anything
      (λ p. OperandHasNames p.0 × OperandHasNames p.1) (nothing negated)
      (behind (a_word word.Between) limits (λ p. OperandHasNames p.0 × OperandHasNames p.1)
      (keeps_both Named D operand (a_word word.And ⊳ operand) OperandHasNames OperandHasNames has_operand
      (behind (a_word word.And) operand OperandHasNames has_operand)))))
      (λ p n. (n.0, n.1.1.0, n.1.1.1))

  abbrev members : Of (List (Operand Term))
  members = a_word word.In ⊳ a_symbol symbol.LeftParenthesis ⊳ listed (a_symbol symbol.Comma) operand
      ⊲ a_symbol symbol.RightParenthesis

  abbrev Members : List (Operand Term) → Type 0
  Members xs = (1 ≤ length xs) × All OperandHasNames xs

  has_membership : Has membership_of ConditionHasNames
  unfolding membership_of
  has_membership =
      keeps_make Named D (λ (p : Operand Term × (Bool × List (Operand Term))). membership p.1.0 p.0 p.1.1)
      (both operand (both negated members))
      (λ p. OperandHasNames p.0 × (Anything p.1.0 × Members p.1.1)) ConditionHasNames
      (keeps_both Named D operand (both negated members) OperandHasNames (λ p. Anything p.0 × Members p.1) has_operand
      (keeps_both Named D negated members Anything Members (nothing negated)
      (behind (a_word word.In) (a_symbol symbol.LeftParenthesis ⊳ listed (a_symbol symbol.Comma) operand
      ⊲ a_symbol symbol.RightParenthesis) Members
      (behind (a_symbol symbol.LeftParenthesis)
      (listed (a_symbol symbol.Comma) operand ⊲ a_symbol symbol.RightParenthesis) Members
      (before (listed (a_symbol symbol.Comma) operand) (a_symbol symbol.RightParenthesis) Members
      (each (a_symbol symbol.Comma) operand OperandHasNames has_operand))))))
      (λ p n. (n.0, n.1.1.1))

  has_null_test : Has null_test_of ConditionHasNames
  unfolding null_test_of
  has_null_test =
      keeps_make Named D (λ (p : Operand Term × Bool). null_test p.1 p.0)
      (both operand (a_word word.Is ⊳ negated ⊲ a_word word.Null))
      (λ p. OperandHasNames p.0 × Anything p.1) ConditionHasNames
      (keeps_both Named D operand (a_word word.Is ⊳ negated ⊲ a_word word.Null) OperandHasNames Anything has_operand
      (nothing (a_word word.Is ⊳ negated ⊲ a_word word.Null)))
      (λ p n. n.0)

  has_simple : Has simple ConditionHasNames
  unfolding simple
  has_simple ts v (inl q) a = has_comparison ts v q a
  has_simple ts v (inr (inl q)) a = has_range ts v q a
  has_simple ts v (inr (inr (inl q))) a = has_membership ts v q a
  has_simple ts v (inr (inr (inr q))) a = has_null_test ts v q a

  -- ---- clauses without a predicate

  has_alias : Has alias (λ v. IfSome v IsName)
  unfolding alias
  has_alias = if_there (maybe (a_word word.As) ⊳ name) IsName (behind (maybe (a_word word.As)) name IsName has_name)

  abbrev counted_column : Of Expression
  counted_column = either (symbol_for symbol.Asterisk expression.CountRows) (make expression.Count column)

  has_counted : Has counted_column ExpressionHasNames
  has_counted ts v (inl q) a = let same : expression.CountRows ≡ v =
      (let some : Some expression.CountRows ≡ Some v = q.3 in cc) in subst ExpressionHasNames same tt
  has_counted ts v (inr q) a = keeps_make Named D expression.Count column IsColumnName ExpressionHasNames has_column
      (λ x n. n) ts v q a

  has_selection : Has selection ExpressionHasNames
  unfolding selection
  has_selection ts v (inl q) a =
      behind (a_word word.Count) (a_symbol symbol.LeftParenthesis ⊳ counted_column ⊲ a_symbol symbol.RightParenthesis)
      ExpressionHasNames
      (behind (a_symbol symbol.LeftParenthesis) (counted_column ⊲ a_symbol symbol.RightParenthesis) ExpressionHasNames
      (before counted_column (a_symbol symbol.RightParenthesis) ExpressionHasNames has_counted)) ts v q a
  has_selection ts v (inr (inl q)) a =
      behind (a_word word.Sum) (a_symbol symbol.LeftParenthesis ⊳ make expression.Sum column
      ⊲ a_symbol symbol.RightParenthesis) ExpressionHasNames
      (behind (a_symbol symbol.LeftParenthesis) (make expression.Sum column ⊲ a_symbol symbol.RightParenthesis)
      ExpressionHasNames
      (before (make expression.Sum column) (a_symbol symbol.RightParenthesis) ExpressionHasNames
      (keeps_make Named D expression.Sum column IsColumnName ExpressionHasNames has_column (λ x n. n)))) ts v q a
  has_selection ts v (inr (inr q)) a =
      keeps_make Named D expression.Column column IsColumnName ExpressionHasNames has_column (λ x n. n) ts v q a

  has_item : Has item ItemHasNames
  unfolding item
  has_item =
      keeps_make Named D (λ (p : Expression × Option (List ℕ)). record { expression = p.0; alias = p.1 })
      (both selection alias)
      (λ p. ExpressionHasNames p.0 × IfSome p.1 IsName) ItemHasNames
      (keeps_both Named D selection alias ExpressionHasNames (λ v. IfSome v IsName) has_selection has_alias)
      (λ p n. record { expression = n.0; alias = n.1 })

  has_list : Has list SelectHasNames
  unfolding list
  has_list ts v (inl q) a = let same : select.All ≡ v =
      (let some : Some select.All ≡ Some v = q.3 in cc) in subst SelectHasNames same tt
  has_list ts v (inr q) a =
      keeps_make Named D select.List (listed (a_symbol symbol.Comma) item)
      (λ xs. (1 ≤ length xs) × All ItemHasNames xs) SelectHasNames
      (each (a_symbol symbol.Comma) item ItemHasNames has_item) (λ x n. n) ts v q a

  has_place : Has place PlaceHasNames
  unfolding place
  has_place =
      keeps_make Named D (λ (p : List ℕ × Option (List ℕ)). record { table = p.0; alias = p.1 }) (both name alias)
      (λ p. IsName p.0 × IfSome p.1 IsName) PlaceHasNames
      (keeps_both Named D name alias IsName (λ v. IfSome v IsName) has_name has_alias)
      (λ p n. record { table = n.0; alias = n.1 })

  has_equal : Has equal EqualityHasNames
  unfolding equal
  has_equal =
      keeps_make Named D (λ (p : ColumnName × ColumnName). record { left = p.0; right = p.1 })
      (both column (a_symbol symbol.Equal ⊳ column))
      (λ p. IsColumnName p.0 × IsColumnName p.1) EqualityHasNames
      (keeps_both Named D column (a_symbol symbol.Equal ⊳ column) IsColumnName IsColumnName has_column
      (behind (a_symbol symbol.Equal) column IsColumnName has_column))
      (λ p n. record { left = n.0; right = n.1 })

  abbrev Equalities : List Equality → Type 0
  Equalities xs = (1 ≤ length xs) × All EqualityHasNames xs

  has_join : Has join JoinHasNames
  unfolding join
  has_join =
      keeps_make Named D (λ (p : Place × List Equality). record { place = p.0; on = p.1 })
      (maybe (a_word word.Inner) ⊳ a_word word.Join
      ⊳ both place (a_word word.On ⊳ listed (a_word word.And) equal))
      (λ p. PlaceHasNames p.0 × Equalities p.1) JoinHasNames
      (behind (maybe (a_word word.Inner))
      (a_word word.Join ⊳ both place (a_word word.On ⊳ listed (a_word word.And) equal))
      (λ p. PlaceHasNames p.0 × Equalities p.1)
      (behind (a_word word.Join) (both place (a_word word.On ⊳ listed (a_word word.And) equal))
      (λ p. PlaceHasNames p.0 × Equalities p.1)
      (keeps_both Named D place (a_word word.On ⊳ listed (a_word word.And) equal) PlaceHasNames Equalities has_place
      (behind (a_word word.On) (listed (a_word word.And) equal) Equalities
      (each (a_word word.And) equal EqualityHasNames has_equal)))))
      (λ p n. record { place = n.0; on = n.1.1 })

  has_source : Has source (λ v. PlaceHasNames v.0 × All JoinHasNames v.1)
  unfolding source
  has_source =
      behind (a_word word.From) (both place (many join)) (λ v. PlaceHasNames v.0 × All JoinHasNames v.1)
      (keeps_both Named D place (many join) PlaceHasNames (All JoinHasNames) has_place
      (keeps_many Named D join JoinHasNames has_join))

  abbrev Columns : List ColumnName → Type 0
  Columns xs = (1 ≤ length xs) × All IsColumnName xs

  has_group : Has group (All IsColumnName)
  unfolding group
  has_group ts v (inl q) a =
      (behind (a_word word.Group) (a_word word.By ⊳ listed (a_symbol symbol.Comma) column) Columns
      (behind (a_word word.By) (listed (a_symbol symbol.Comma) column) Columns
      (each (a_symbol symbol.Comma) column IsColumnName has_column)) ts v q a).1
  has_group ts v (inr q) a = subst (All IsColumnName) (sym q.1) (All-nil IsColumnName)

  -- ---- and with one, where the factors within have names

  module _ (deep : Keeps Named D ConditionHasNames) where
    has_conj : Has conj ConditionHasNames
    unfolding conj
    has_conj =
        keeps_make Named D (λ (p : Condition × List Condition). joined conjunction p.0 p.1)
        (both inner (many (a_word word.And ⊳ inner)))
        (λ p. ConditionHasNames p.0 × All ConditionHasNames p.1) ConditionHasNames
        (keeps_both Named D inner (many (a_word word.And ⊳ inner)) ConditionHasNames (All ConditionHasNames) deep
        (keeps_many Named D (a_word word.And ⊳ inner) ConditionHasNames
        (behind (a_word word.And) inner ConditionHasNames deep)))
        (λ p n. joined_named conjunction (λ a b m l. (m, l)) p.0 p.1 n.0 n.1)

    has_pred : Has pred ConditionHasNames
    unfolding pred
    has_pred =
        keeps_make Named D (λ (p : Condition × List Condition). joined disjunction p.0 p.1)
        (both conj (many (a_word word.Or ⊳ conj)))
        (λ p. ConditionHasNames p.0 × All ConditionHasNames p.1) ConditionHasNames
        (keeps_both Named D conj (many (a_word word.Or ⊳ conj)) ConditionHasNames (All ConditionHasNames) has_conj
        (keeps_many Named D (a_word word.Or ⊳ conj) ConditionHasNames
        (behind (a_word word.Or) conj ConditionHasNames has_conj)))
        (λ p n. joined_named disjunction (λ a b m l. (m, l)) p.0 p.1 n.0 n.1)

    has_primary : Has (primary_of simple) ConditionHasNames
    has_primary =
        keeps_opened Named D (is_symbol symbol.LeftParenthesis) (symbol_token symbol.LeftParenthesis)
        (pred ⊲ a_symbol symbol.RightParenthesis) simple ConditionHasNames
        (before pred (a_symbol symbol.RightParenthesis) ConditionHasNames has_pred) has_simple

    has_test : Has (test_of (primary_of simple)) ConditionHasNames
    has_test =
        keeps_make Named D (λ (p : Condition × Option (Bool × Truth)). tested p.0 p.1)
        (both (primary_of simple) (maybe (a_word word.Is ⊳ both negated truth_value)))
        (λ p. ConditionHasNames p.0 × Anything p.1) ConditionHasNames
        (keeps_both Named D (primary_of simple) (maybe (a_word word.Is ⊳ both negated truth_value)) ConditionHasNames
        Anything has_primary (nothing (maybe (a_word word.Is ⊳ both negated truth_value))))
        (λ p n. tested_named p.0 p.1 n.0)

    has_factor : Has factor ConditionHasNames
    unfolding factor
    has_factor =
        keeps_opened Named D (is_word word.Not) (word_token word.Not) (make negation inner)
        (test_of (primary_of simple)) ConditionHasNames
        (keeps_make Named D negation inner ConditionHasNames ConditionHasNames deep (λ x n. n)) has_test

    has_filter : Has filter (λ v. IfSome v ConditionHasNames)
    unfolding filter
    has_filter = if_there (a_word word.Where ⊳ pred) ConditionHasNames
        (behind (a_word word.Where) pred ConditionHasNames has_pred)

    has_ending : Has ending (λ v. IfSome v.0 ConditionHasNames × All IsColumnName v.1)
    unfolding ending
    has_ending =
        keeps_both Named D filter (group ⊲ maybe (a_symbol symbol.Semicolon)) (λ v. IfSome v ConditionHasNames)
        (All IsColumnName) has_filter
        (before group (maybe (a_symbol symbol.Semicolon)) (All IsColumnName) has_group)

    has_query : Has query QueryHasNames
    unfolding query
    has_query =
        keeps_make Named D (λ (p : Select × ((Place × List Join) × (Option Condition × List ColumnName))).
        record { select = p.0; first = p.1.0.0; joins = p.1.0.1; filter = p.1.1.0; group_by = p.1.1.1 })
        (both (a_word word.Select ⊳ list) (both source ending))
        (λ p. SelectHasNames p.0 × ((PlaceHasNames p.1.0.0 × All JoinHasNames p.1.0.1) ×
        (IfSome p.1.1.0 ConditionHasNames × All IsColumnName p.1.1.1))) QueryHasNames
        (keeps_both Named D (a_word word.Select ⊳ list) (both source ending) SelectHasNames
        (λ p. (PlaceHasNames p.0.0 × All JoinHasNames p.0.1) ×
        (IfSome p.1.0 ConditionHasNames × All IsColumnName p.1.1))
        (behind (a_word word.Select) list SelectHasNames has_list)
        (keeps_both Named D source ending (λ v. PlaceHasNames v.0 × All JoinHasNames v.1)
        (λ v. IfSome v.0 ConditionHasNames × All IsColumnName v.1) has_source has_ending))
        (λ p n. record { select = n.0; first = n.1.0.0; joins = n.1.0.1; filter = n.1.1.0; group_by = n.1.1.1 })

names_of_tokens : (ts : List Mark) (s : Sentence) → IsSentence ts s → All Named ts → QueryHasNames s
names_of_tokens = has_query (Any factor) (keeps_any Named factor ConditionHasNames has_factor)

-- ---- the tokens of a text, where they pass no limit

second_false : (a b : Bool) → a ≡ true → (a && b) ≡ false → b ≡ false
second_false true b n e = e
second_false false b n e = cc

named : (token : Token) → SaysText (lexeme_of token) → is_long_name token.kind token.text.now ≡ false →
    Named (mark token)
unfolding is_long_name
named token says short n =
    let text = says n in
    let few : nat_lt 64 (length (said token.kind token.text.now)) ≡ false =
    second_false (is_name token.kind) (nat_lt 64 (length (said token.kind token.text.now))) n short in
    record { some = text.0; few = ltb-false 64 (length (said token.kind token.text.now)) few; utf8 = text.1 }

all_named : (tally : TallyAt) (tokens : List Token) → All SaysText (map lexeme_of tokens) →
    passes_from tally (marks tokens) ≡ false → All Named (marks tokens)
all_named tally [] says short = All-nil Named
all_named tally (token ∷ tokens) says short =
    let more = passes_from (counted tally token.kind) (marks tokens) in
    let past = is_past tally in
    let long = is_long_name token.kind token.text.now in
    All-cons Named (mark token) (marks tokens)
    (named token (All-head SaysText (lexeme_of token) (map lexeme_of tokens) says)
    (or-left long past (or-left (long || past) more short)))
    (all_named (counted tally token.kind) tokens (All-tail SaysText (lexeme_of token) (map lexeme_of tokens) says)
    (or-right (long || past) more short))

accepted_names : (tokens : List Token) (s : Sentence) → All SaysText (map lexeme_of tokens) →
    Accepts (marks tokens) s → QueryHasNames s
unfolding passes
accepted_names tokens s says a =
    let sentence = sentence_of_shallow (marks tokens) s a.shallow in
    names_of_tokens (marks tokens) s sentence
    (all_named (record { places = 0; items = 0; most = 64 }) tokens says
    a.within)

pub answered_names : {X : Type 0} (view : X → Sentence) (tokens : List Token) (end : ℕ) (result : Result X Fault) →
    All SaysText (map lexeme_of tokens) →
    Answered view (marks tokens) end result → IfOk result (λ (x : X). QueryHasNames (view x))
answered_names view tokens end (Ok x) says a = accepted_names tokens (view x) says a
answered_names view tokens end (Err fault) says a = tt
