-- Reading the clauses is these steps.
use Rattle.std.proofs.Common.{◌≡◌, ℕ, Bool, true, false, cond, ◌||◌, List, [], ◌∷◌, ◌++◌, Some, None, Ok, refl, ◌∙◌}
use Rattle.std.proofs.Common.{ap, sym, append-nil}
use Rattle.sql_text.specs.declared.word.Keyword.TheVariants as word
use Rattle.sql_text.specs.declared.symbol.Symbol.TheVariants as symbol
use Rattle.grammar.specs.Rule.{many}
use Rattle.grammar.specs.Reading.{reads, read, begins, starts, nullable}
use Rattle.grammar.proofs.Determined.{well_made, is_flat}
use Rattle.grammar.proofs.Deep.{flat_alike}
use Rattle.sql_query.specs.declared.query.ColumnName.{ColumnName}
use Rattle.sql_query.specs.declared.query.SelectItem.{SelectItem}
use Rattle.sql_query.specs.declared.query.Equality.{Equality}
use Rattle.sql_query.specs.declared.query.Join.{Join}
use Rattle.sql_text.specs.Words.{is_name}
use Rattle.sql_parse.specs.Tokens.{Mark, is_word, is_symbol, same_word, same_symbol}
use Rattle.sql_parse.specs.Answers.{seen, ◌>>=◌}
use Rattle.sql_parse.specs.Productions.{name, column}
use Rattle.sql_parse.specs.Clauses.{alias, selection, item, list, place, equal, join, group}
use Rattle.sql_parse.specs.Notation.{Of}
use Rattle.sql_parse.specs.Clauses.{filter, source, ending, query}
use Rattle.sql_parse.specs.Notation.{maybe, a_word, a_symbol, ◌⊳◌}
use Rattle.sql_parse.specs.FactoredGrammar.{factor_by_operand}
use Rattle.sql_parse.specs.Steps.{at, token_at, column_at}
use Rattle.sql_parse.specs.ClauseSteps.{alias_at, counted_at, selection_at, item_at, items_at, list_at, place_at}
use Rattle.sql_parse.specs.ClauseSteps.{equal_at, equals_at, joined_at, join_at, joins_at, source_at, columns_at}
use Rattle.sql_parse.specs.ClauseSteps.{group_at}
use Rattle.sql_parse.specs.QuerySteps.{filter_at, ending_at, query_at}
use Rattle.sql_parse.proofs.Whole.{one_more}
use Rattle.sql_parse.proofs.Steps.{Nest, flat, name_same, column_same, pred_same, nil_after}

or_false : (a b : Bool) → ((a || false) || b) ≡ (a || b)
or_false true b = refl
or_false false b = refl

cond_or : {A : Type 0} (a b : Bool) (x y z : A) → cond (a || b) (cond a x y) z ≡ cond a x (cond b y z)
cond_or true b x y z = refl
cond_or false b x y z = refl

alias_starts : (ts : List Mark) → begins (starts (maybe (a_word word.As) ⊳ name)) ts ≡
    (at (is_word word.As) ts || at is_name ts)
unfolding name at begins
alias_starts [] = refl
alias_starts (t ∷ ts) = or_false (is_word word.As t.0) (is_name t.0)

alias_same : (D : Nest) (ts : List Mark) → seen (reads D alias ts) ≡ alias_at ts
unfolding alias alias_at token_at at
alias_same D ts = simp (flat, alias_starts, name_same, cond_or)

selection_same : (D : Nest) (ts : List Mark) → seen (reads D selection ts) ≡ selection_at ts
unfolding selection selection_at counted_at token_at at
selection_same D ts = simp (flat, column_same)

item_same : (D : Nest) (ts : List Mark) → seen (reads D item ts) ≡ item_at ts
unfolding item item_at
item_same D ts = simp (flat, selection_same, alias_same)

place_same : (D : Nest) (ts : List Mark) → seen (reads D place ts) ≡ place_at ts
unfolding place place_at
place_same D ts = simp (flat, name_same, alias_same)

equal_same : (D : Nest) (ts : List Mark) → seen (reads D equal ts) ≡ equal_at ts
unfolding equal equal_at token_at
equal_same D ts = simp (flat, column_same)

-- ---- what is repeated

-- what stands after those in front, one by one
more : {A : Type 0} (g : Of A) → well_made g ≡ true → nullable g ≡ false → is_flat g ≡ true →
    (front : List A) (ts : List Mark) →
    (seen (reads None (many g) ts) >>= λ xs. Ok (front ++ xs.0, xs.1)) ≡ cond (begins (starts g) ts)
    (seen (reads None g ts) >>= λ x.
    (seen (reads None (many g) x.1) >>= λ xs. Ok ((front ++ x.0 ∷ []) ++ xs.0, xs.1))) (Ok (front, ts))
more {A} g w n f front ts = rw (sym (alike ts), one_more g w n 0 ts)
    (simp (flat, nil_after, append-nil, alike, alone))
  where
    alike : (us : List Mark) → reads (Some (read factor_by_operand 0)) (many g) us ≡ reads None (many g) us
    alike us = flat_alike (Some (read factor_by_operand 0)) None (many g) f us

    alone : (us : List Mark) → reads (Some (read factor_by_operand 0)) g us ≡ reads None g us
    alone us = flat_alike (Some (read factor_by_operand 0)) None g f us

items_made : well_made (a_symbol symbol.Comma ⊳ item) ≡ true
unfolding item selection alias column name same_word same_symbol
items_made = refl

items_flat : is_flat (a_symbol symbol.Comma ⊳ item) ≡ true
unfolding item selection alias column name
items_flat = refl

pub items_step : (front : List SelectItem) (ts : List Mark) →
    items_at front ts ≡ cond (at (is_symbol symbol.Comma) ts)
    (token_at (is_symbol symbol.Comma) ts >>= λ t. item_at t.1 >>= λ x. items_at (front ++ x.0 ∷ []) x.1)
    (Ok (front, ts))
unfolding items_at token_at at
items_step front ts = more (a_symbol symbol.Comma ⊳ item) items_made refl items_flat front ts ∙ simp (flat, item_same)

columns_made : well_made (a_symbol symbol.Comma ⊳ column) ≡ true
unfolding column name same_symbol
columns_made = refl

columns_flat : is_flat (a_symbol symbol.Comma ⊳ column) ≡ true
unfolding column name
columns_flat = refl

pub columns_step : (front : List ColumnName) (ts : List Mark) →
    columns_at front ts ≡ cond (at (is_symbol symbol.Comma) ts)
    (token_at (is_symbol symbol.Comma) ts >>= λ t. column_at t.1 >>= λ x. columns_at (front ++ x.0 ∷ []) x.1)
    (Ok (front, ts))
unfolding columns_at token_at at
columns_step front ts = more (a_symbol symbol.Comma ⊳ column) columns_made refl columns_flat front ts
    ∙ simp (flat, column_same)

equals_made : well_made (a_word word.And ⊳ equal) ≡ true
unfolding equal column name same_word same_symbol
equals_made = refl

equals_flat : is_flat (a_word word.And ⊳ equal) ≡ true
unfolding equal column name
equals_flat = refl

pub equals_step : (front : List Equality) (ts : List Mark) →
    equals_at front ts ≡ cond (at (is_word word.And) ts)
    (token_at (is_word word.And) ts >>= λ t. equal_at t.1 >>= λ x. equals_at (front ++ x.0 ∷ []) x.1) (Ok (front, ts))
unfolding equals_at token_at at
equals_step front ts = more (a_word word.And ⊳ equal) equals_made refl equals_flat front ts ∙ simp (flat, equal_same)

join_same : (ts : List Mark) → seen (reads None join ts) ≡ join_at ts
unfolding join join_at joined_at token_at at equals_at
join_same ts = simp (flat, place_same, equal_same)

join_starts : (ts : List Mark) → begins (starts join) ts ≡ (at (is_word word.Inner) ts || at (is_word word.Join) ts)
unfolding join at begins
join_starts [] = refl
join_starts (t ∷ ts) = or_false (is_word word.Inner t.0) (is_word word.Join t.0)

join_made : well_made join ≡ true
unfolding join equal place alias column name same_word same_symbol
join_made = refl

join_filled : nullable join ≡ false
unfolding join
join_filled = refl

join_flat : is_flat join ≡ true
unfolding join equal place alias column name
join_flat = refl

pub joins_step : (front : List Join) (ts : List Mark) →
    joins_at front ts ≡ cond (at (is_word word.Inner) ts || at (is_word word.Join) ts)
    (join_at ts >>= λ x. joins_at (front ++ x.0 ∷ []) x.1) (Ok (front, ts))
unfolding joins_at
joins_step front ts = more join join_made join_filled join_flat front ts ∙ simp (join_same, join_starts)

-- ---- clauses

list_same : (ts : List Mark) → seen (reads None list ts) ≡ list_at ts
unfolding list list_at items_at token_at at
list_same ts = simp (flat, item_same)

list_flat : is_flat list ≡ true
unfolding list item selection alias column name
list_flat = refl

list_any : (D : Nest) (ts : List Mark) → seen (reads D list ts) ≡ list_at ts
list_any D ts = ap seen (flat_alike D None list list_flat ts) ∙ list_same ts

source_same : (ts : List Mark) → seen (reads None source ts) ≡ source_at ts
unfolding source source_at joins_at token_at
source_same ts = simp (flat, place_same)

source_flat : is_flat source ≡ true
unfolding source join equal place alias column name
source_flat = refl

source_any : (D : Nest) (ts : List Mark) → seen (reads D source ts) ≡ source_at ts
source_any D ts = ap seen (flat_alike D None source source_flat ts) ∙ source_same ts

group_same : (ts : List Mark) → seen (reads None group ts) ≡ group_at ts
unfolding group group_at columns_at token_at at
group_same ts = simp (flat, column_same)

group_flat : is_flat group ≡ true
unfolding group column name
group_flat = refl

group_any : (D : Nest) (ts : List Mark) → seen (reads D group ts) ≡ group_at ts
group_any D ts = ap seen (flat_alike D None group group_flat ts) ∙ group_same ts

filter_same : (d : ℕ) (ts : List Mark) → seen (reads (Some (read factor_by_operand d)) filter ts) ≡ filter_at d ts
unfolding filter filter_at token_at at
filter_same d ts = simp (flat, pred_same)

ending_same : (d : ℕ) (ts : List Mark) → seen (reads (Some (read factor_by_operand d)) ending ts) ≡ ending_at d ts
unfolding ending ending_at token_at at
ending_same d ts = simp (flat, filter_same, group_any)

pub query_same : (d : ℕ) (ts : List Mark) → seen (reads (Some (read factor_by_operand d)) query ts) ≡ query_at d ts
unfolding query query_at token_at
query_same d ts = simp (flat, list_any, source_any, ending_same)
