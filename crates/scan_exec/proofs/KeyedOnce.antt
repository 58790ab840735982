-- Groups by a key, and by its columns that differ.
use Rattle.std.proofs.Common.{◌≡◌, ◌≤◌, ◌<◌, ℕ, zero, suc, ◌+◌, Bool, true, false, ◌&&◌, if◌then◌else◌, List, [], ◌∷◌, ◌++◌, length, map, get_or, nat_lt, Option, None, refl, sym, ap, ◌∙◌, arith, length-append}
use Rattle.std.specs.List.{fold, list_all}
use Rattle.std.proofs.lemmas.Bool.{ltb-true, lt-ltb, and_parts, and_from}
use Rattle.std.proofs.lemmas.List.{map-append, get_or_append_left, get_or-map, length-map}
use Rattle.std.proofs.lemmas.List.Folds.{list_all-append}
use Rattle.arrow_types.specs.Answer.{copied_type}
use Rattle.arrow_types.specs.declared.data_type.DataType.{DataType}
use Rattle.scan_base.specs.Predicate.{cell_in}
use Rattle.scan_base.specs.declared.value.Value.{Value}
use Rattle.table_versions.specs.Table.{Row}
use Rattle.typed_plan.specs.declared.plan.Aggregate.{Aggregate}
use Rattle.typed_plan.specs.declared.plan.Aggregate.TheVariants.{Key, CountRows, Count, Sum}
use Rattle.typed_plan.specs.declared.plan.Output.TheVariants.{Groups}
use Rattle.typed_plan.specs.GroupedRows.{Group, same_key, same_value, with_row}
use Rattle.typed_plan.specs.Plan.{answered, groups_by}
use Rattle.typed_plan.specs.TypedPlans.{has_item, item_type, type_at}
use Rattle.batch_skipping.specs.ChosenColumns.{are_within}
use Rattle.row_sources.specs.Running.{RowsAt}
use Rattle.row_sources.proofs.Cells.{cell-map, within_at}
use Rattle.scan_exec.specs.Answering.{answer_for}
use Rattle.scan_exec.specs.DistinctItems.{KeyedBy, column_at, item_by}
use Rattle.scan_exec.specs.Giving.{GivingAt}

-- ---- a part more

-- what is within few is within more
wider : (few more : ℕ) (places : List ℕ) → few ≤ more → are_within few places ≡ true → are_within more places ≡ true
wider few more [] h all = refl
wider few more (place ∷ places) h all =
    let parts = and_parts (nat_lt place few) (are_within few places) all in
    and_from _ _ (lt-ltb place more (omega (arith, h, ltb-true place few parts.0))) (wider few more places h parts.1)

-- the columns at places of a beginning
still : (columns : List ℕ) (key : ℕ) (places : List ℕ) → are_within (length columns) places ≡ true →
    map (column_at (columns ++ key ∷ [])) places ≡ map (column_at columns) places
still columns key [] all = refl
still columns key (place ∷ places) all =
    let parts = and_parts (nat_lt place (length columns)) (are_within (length columns) places) all in
    rw (get_or_append_left columns (key ∷ []) 0 place (ltb-true place (length columns) parts.0), still columns key places parts.1) refl

-- the last one
last_is : (columns : List ℕ) (key : ℕ) → column_at (columns ++ key ∷ []) (length columns) ≡ key
last_is [] key = refl
last_is (first ∷ columns) key = last_is columns key

-- what holds of all holds of those before the last, and of the last
all_of_more : (test : ℕ → Bool) (keys : List ℕ) (key : ℕ) → list_all test (keys ++ key ∷ []) ≡ true →
    (list_all test keys ≡ true) × (list_all test (key ∷ []) ≡ true)
all_of_more test keys key h = and_parts (list_all test keys) (list_all test (key ∷ [])) (sym (list_all-append test keys (key ∷ [])) ∙ h)

module _ (keys columns places : List ℕ) (key : ℕ) (keyed : KeyedBy keys columns places) where
  -- whose column is there
  pub with_known : (place : ℕ) → place < length columns → column_at columns place ≡ key → KeyedBy (keys ++ key ∷ []) columns (places ++ place ∷ [])
  with_known place there is = record {
    each = map-append (column_at columns) places (place ∷ []) ∙ ap (λ (begin : List ℕ). begin ++ column_at columns place ∷ []) keyed.each
        ∙ ap (λ (last : ℕ). keys ++ last ∷ []) is;
    there = list_all-append (λ number. nat_lt number (length columns)) places (place ∷ [])
        ∙ and_from _ _ keyed.there (and_from _ _ (lt-ltb place (length columns) there) refl);
    among = λ test h. keyed.among test (all_of_more test keys key h).0;
  }

  -- whose column is none of them
  pub with_new : KeyedBy (keys ++ key ∷ []) (columns ++ key ∷ []) (places ++ length columns ∷ [])
  with_new =
      let long : length (columns ++ key ∷ []) ≡ length columns + 1 = length-append columns (key ∷ []) in
      record {
        each = map-append (column_at (columns ++ key ∷ [])) places (length columns ∷ [])
            ∙ ap (λ (begin : List ℕ). begin ++ column_at (columns ++ key ∷ []) (length columns) ∷ []) (still columns key places keyed.there ∙ keyed.each)
            ∙ ap (λ (last : ℕ). keys ++ last ∷ []) (last_is columns key);
        there = list_all-append (λ number. nat_lt number (length (columns ++ key ∷ []))) places (length columns ∷ [])
            ∙ and_from _ _ (wider (length columns) (length (columns ++ key ∷ [])) places (omega (arith, long)) keyed.there)
            (and_from _ _ (lt-ltb (length columns) (length (columns ++ key ∷ [])) (omega (arith, long))) refl);
        among = λ test h. list_all-append test columns (key ∷ [])
            ∙ and_from _ _ (keyed.among test (all_of_more test keys key h).0) (all_of_more test keys key h).1;
      }

-- ---- groups, by their first rows

-- the values of a row in these columns
abbrev cells : List ℕ → Row → List Value
cells keys row = map (cell_in row) keys

-- a group, by its first row
abbrev group_at : List ℕ → Row × List Row → Group
group_at keys found = record { key = cells keys found.0; rows = found.1 }

-- a row joins the first of these with whose first row it is the same, or opens a new last one
abbrev found_with : (Row → Row → Bool) → Row → List (Row × List Row) → List (Row × List Row)
found_with same row [] = (row, row ∷ []) ∷ []
found_with same row (one ∷ more) = if same one.0 row then (one.0, one.1 ++ row ∷ []) ∷ more else one ∷ found_with same row more

abbrev found_all : (Row → Row → Bool) → List Row → List (Row × List Row) → List (Row × List Row)
found_all same [] found = found
found_all same (row ∷ rows) found = found_all same rows (found_with same row found)

module _ (keys : List ℕ) (same : Row → Row → Bool) (is : (a b : Row) → same_key (cells keys a) (cells keys b) ≡ same a b) where
  with_found : (row : Row) (found : List (Row × List Row)) →
      with_row (cells keys row) row (map (group_at keys) found) ≡ map (group_at keys) (found_with same row found)
  with_found row [] = refl
  with_found row (one ∷ more) = by (same one.0 row) refl (with_found row more)
    where
      by : (b : Bool) → same one.0 row ≡ b → with_row (cells keys row) row (map (group_at keys) more) ≡ map (group_at keys) (found_with same row more) →
          with_row (cells keys row) row (map (group_at keys) (one ∷ more)) ≡ map (group_at keys) (found_with same row (one ∷ more))
      by true e rest = rw (is one.0 row, e) refl
      by false e rest = rw (is one.0 row, e) (ap (λ (groups : List Group). group_at keys one ∷ groups) rest)

  all_found : (rows : List Row) (found : List (Row × List Row)) →
      fold (λ groups row. with_row (cells keys row) row groups) (map (group_at keys) found) rows ≡ map (group_at keys) (found_all same rows found)
  all_found [] found = refl
  all_found (row ∷ rows) found =
      ap (λ (groups : List Group). fold (λ groups row. with_row (cells keys row) row groups) groups rows) (with_found row found)
      ∙ all_found rows (found_with same row found)

-- ---- when rows are the same

-- two rows have the same key where they have the same value in each column
same_cells : (keys : List ℕ) (a b : Row) → same_key (cells keys a) (cells keys b) ≡ list_all (λ column. same_value (cell_in a column) (cell_in b column)) keys
same_cells [] a b = refl
same_cells (key ∷ keys) a b = ap (λ (rest : Bool). same_value (cell_in a key) (cell_in b key) && rest) (same_cells keys a b)

both_ways : (a b : Bool) → (a ≡ true → b ≡ true) → (b ≡ true → a ≡ true) → a ≡ b
both_ways true b f g = sym (f refl)
both_ways false true f g = g refl
both_ways false false f g = refl

all_at : (test : ℕ → Bool) (columns : List ℕ) (place : ℕ) → place < length columns → list_all test columns ≡ true → test (column_at columns place) ≡ true
all_at test [] place there all = absurd (omega (arith, there))
all_at test (column ∷ columns) zero there all = (and_parts (test column) (list_all test columns) all).0
all_at test (column ∷ columns) (suc place) there all = all_at test columns place (omega (arith, there)) (and_parts (test column) (list_all test columns) all).1

all_named : (test : ℕ → Bool) (columns places : List ℕ) → are_within (length columns) places ≡ true → list_all test columns ≡ true →
    list_all test (map (column_at columns) places) ≡ true
all_named test columns [] there all = refl
all_named test columns (place ∷ places) there all =
    let parts = and_parts (nat_lt place (length columns)) (are_within (length columns) places) there in
    and_from _ _ (all_at test columns place (ltb-true place (length columns) parts.0) all) (all_named test columns places parts.1 all)

-- columns that stand for a key's hold what the key's do
same_tests : (keys columns places : List ℕ) → KeyedBy keys columns places → (test : ℕ → Bool) → list_all test keys ≡ list_all test columns
same_tests keys columns places keyed test =
    both_ways (list_all test keys) (list_all test columns) (keyed.among test)
    (λ h. ap (list_all test) (sym keyed.each) ∙ all_named test columns places keyed.there h)

-- a key and its columns that differ make groups of the same rows
groups_are : (keys columns places : List ℕ) → KeyedBy keys columns places → (rows : List Row) →
    (found : List (Row × List Row)) × (groups_by keys rows ≡ map (group_at keys) found) × (groups_by columns rows ≡ map (group_at columns) found)
groups_are [] [] places keyed rows = (([], rows) ∷ [], refl, refl)
groups_are [] (column ∷ columns) places keyed rows = let h : false ≡ true = keyed.among (λ _. false) refl in absurd cc
groups_are (key ∷ keys) [] [] keyed rows = let h : [] ≡ key ∷ keys = keyed.each in absurd cc
groups_are (key ∷ keys) [] (place ∷ places) keyed rows =
    absurd (omega (arith, ltb-true place 0 (and_parts (nat_lt place 0) (are_within 0 places) keyed.there).0))
groups_are (key ∷ keys) (column ∷ columns) places keyed rows =
    let test : Row → Row → ℕ → Bool = λ a b number. same_value (cell_in a number) (cell_in b number) in
    let same : Row → Row → Bool = λ a b. list_all (test a b) (column ∷ columns) in (
      found_all same rows [],
      all_found (key ∷ keys) same
          (λ a b. same_cells (key ∷ keys) a b ∙ same_tests (key ∷ keys) (column ∷ columns) places keyed (test a b)) rows [],
      all_found (column ∷ columns) same (same_cells (column ∷ columns)) rows [],
    )

-- ---- items of groups

-- what items give of a group, which is of no one batch
abbrev shown : List Aggregate → Group → Option ℕ × Row
shown items group = (None, map (answered group) items)

module _ (keys columns places : List ℕ) (keyed : KeyedBy keys columns places) (types : List DataType) where
  -- there are as many places as parts
  many : length places ≡ length keys
  many = sym (length-map places (column_at columns)) ∙ ap length keyed.each

  -- a part of the key, by the columns that differ
  named : (place : ℕ) → place < length keys → get_or keys place 0 ≡ column_at columns (get_or places place 0)
  named place there =
      ap (λ (all : List ℕ). get_or all place 0) (sym keyed.each) ∙ get_or-map (column_at columns) places place 0 0 (omega (arith, there, many))

  -- its column is there
  placed : (place : ℕ) → place < length keys → get_or places place 0 < length columns
  placed place there = within_at (length columns) places place keyed.there (omega (arith, there, many))

  item_answered : (found : Row × List Row) (item : Aggregate) → has_item (length keys) types item ≡ true →
      answered (group_at columns found) (item_by places item) ≡ answered (group_at keys found) item
  item_answered found (Key place) has =
      let there = ltb-true place (length keys) has in
      cell-map (cell_in found.0) columns (get_or places place 0) 0 (placed place there)
      ∙ ap (cell_in found.0) (sym (named place there))
      ∙ sym (cell-map (cell_in found.0) keys place 0 there)
  item_answered found CountRows has = refl
  item_answered found (Count column) has = refl
  item_answered found (Sum column) has = refl

  item_typed : (item : Aggregate) → has_item (length keys) types item ≡ true → item_type columns types (item_by places item) ≡ item_type keys types item
  item_typed (Key place) has = ap (type_at types) (sym (named place (ltb-true place (length keys) has)))
  item_typed CountRows has = refl
  item_typed (Count column) has = refl
  item_typed (Sum column) has = refl

  item_there : (item : Aggregate) → has_item (length keys) types item ≡ true → has_item (length columns) types (item_by places item) ≡ true
  item_there (Key place) has = lt-ltb (get_or places place 0) (length columns) (placed place (ltb-true place (length keys) has))
  item_there CountRows has = has
  item_there (Count column) has = has
  item_there (Sum column) has = has

  -- the items are there
  pub items_there : (items : List Aggregate) → list_all (has_item (length keys) types) items ≡ true →
      list_all (has_item (length columns) types) (map (item_by places) items) ≡ true
  items_there [] has = refl
  items_there (item ∷ items) has =
      let parts = and_parts (has_item (length keys) types item) (list_all (has_item (length keys) types) items) has in
      and_from _ _ (item_there item parts.0) (items_there items parts.1)

  -- and of the same types
  items_typed : (items : List Aggregate) → list_all (has_item (length keys) types) items ≡ true →
      map (item_type columns types) (map (item_by places) items) ≡ map (item_type keys types) items
  items_typed [] has = refl
  items_typed (item ∷ items) has =
      let parts = and_parts (has_item (length keys) types item) (list_all (has_item (length keys) types) items) has in
      rw (item_typed item parts.0, items_typed items parts.1) refl

  -- and they answer the same
  items_answered : (found : Row × List Row) (items : List Aggregate) → list_all (has_item (length keys) types) items ≡ true →
      map (answered (group_at columns found)) (map (item_by places) items) ≡ map (answered (group_at keys found)) items
  items_answered found [] has = refl
  items_answered found (item ∷ items) has =
      let parts = and_parts (has_item (length keys) types item) (list_all (has_item (length keys) types) items) has in
      rw (item_answered found item parts.0, items_answered found items parts.1) refl

  -- of each group
  rows_answered : (found : List (Row × List Row)) (items : List Aggregate) → list_all (has_item (length keys) types) items ≡ true →
      map (shown (map (item_by places) items)) (map (group_at columns) found) ≡ map (shown items) (map (group_at keys) found)
  rows_answered [] items has = refl
  rows_answered (one ∷ more) items has =
      let first : shown (map (item_by places) items) (group_at columns one) ≡ shown items (group_at keys one) =
      ap (λ (row : Row). (None, row)) (items_answered one items has) in
      rw (first, rows_answered more items has) refl

-- groups by the columns that differ answer what groups by the key do
pub keyed_same : (rows : RowsAt) (keys columns places : List ℕ) (items : List Aggregate) → KeyedBy keys columns places →
    list_all (has_item (length keys) rows.types) items ≡ true →
    answer_for (Groups columns (map (item_by places) items)) rows ≡ answer_for (Groups keys items) rows
keyed_same rows keys columns places items keyed has =
    let giving : List DataType → List (Option ℕ × Row) → GivingAt = λ types ahead.
    record { types = types; ahead = ahead; batches = rows.batches; opened = rows.opened; unseen = 0 } in
    let some = map (λ (row : ℕ × Row). row.1) rows.ahead in
    let found = groups_are keys columns places keyed some in
    let new = map (item_by places) items in
    ap (λ (types : List DataType). giving (map copied_type types) (map (shown new) (groups_by columns some))) (items_typed keys columns places keyed rows.types items has)
    ∙ ap (giving (map copied_type (map (item_type keys rows.types) items)))
    (ap (map (shown new)) found.2 ∙ rows_answered keys columns places keyed rows.types found.0 items has ∙ sym (ap (map (shown items)) found.1))
