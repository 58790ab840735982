-- What is read of the places, one by one.
use Rattle.std.proofs.Common.{◌≡◌, ◌≤◌, ◌<◌, ◌⊎◌, inl, inr, ℕ, zero, suc, ◌+◌, Bool, true, false, All, List, [], ◌∷◌, ◌++◌, length, map, drop, get_or, cond, refl, sym, ap, ◌∙◌, subst, arith, append_assoc, append-nil}
use Rattle.std.specs.Prelude.{IsTrue}
use Rattle.std.specs.List.{filter, list_all}
use Rattle.std.proofs.lemmas.Bool.{cases_Bool, and_from}
use Rattle.std.proofs.lemmas.List.{drop_all}
use Rattle.std.proofs.lemmas.List.Elements.{All-nil, All-cons}
use Rattle.arrow_types.specs.declared.schema.Schema.{Schema}
use Rattle.scan_base.specs.Predicate.{Pred}
use Rattle.table_versions.specs.KeptTables.{IsKept}
use Rattle.table_versions.specs.StoredTables.{TableAt, table_of}
use Rattle.typed_plan.specs.declared.plan.Columns.{Columns}
use Rattle.typed_plan.specs.HeldTables.{tree_schemas}
use Rattle.typed_plan.specs.Plan.{Tree, scan, filtered, joined}
use Rattle.typed_plan.specs.TypedPlans.{IsTypedTree, has_columns}
use Rattle.batch_skipping.specs.declared.opened_batches.OpenedList.{OpenedList}
use Rattle.batch_skipping.specs.PlaceLists.{AreLists, AreWhole, IsListOf}
use Rattle.batch_skipping.specs.OpenedBatches.{batches_in, first_numbers, further_numbers, given_width, judged_count, numbers_behind, place_opened, scans_of, whole_count}

-- each scan gives columns of its table
abbrev pub Fit : List Columns → List Schema → Type 0
Fit [] [] = Unit {0}
Fit (columns ∷ scans) (schema ∷ schemas) = IsTrue (has_columns (length schema.fields) columns) × Fit scans schemas
Fit _ _ = ⊥

fit_append : (scans more : List Columns) (schemas others : List Schema) → Fit scans schemas → Fit more others → Fit (scans ++ more) (schemas ++ others)
fit_append [] more [] others a b = b
fit_append [] more (schema ∷ schemas) others a b = absurd a
fit_append (columns ∷ scans) more [] others a b = absurd a
fit_append (columns ∷ scans) more (schema ∷ schemas) others a b = (a.0, fit_append scans more schemas others a.1 b)

pub fit_tree : (tree : Tree) → IsTypedTree tree → Fit (scans_of tree) (tree_schemas tree)
fit_tree (scan table schema columns) typed = (typed, tt)
fit_tree (filtered predicate tree) typed = fit_tree tree typed.1
fit_tree (joined left right on) typed =
    let (a, b, alone, keys, span) = typed in
    fit_append (scans_of left) (scans_of right) (tree_schemas left) (tree_schemas right) (fit_tree left a) (fit_tree right b)

pub fit_all : (tree : Tree) (scans : List Columns) (tables : List TableAt) → IsTypedTree tree → scans ≡ scans_of tree →
    tree_schemas tree ≡ map (λ (table : TableAt). table.schema) tables → Fit scans (map (λ (table : TableAt). table.schema) tables)
fit_all tree scans tables typed a b =
    subst (λ (some : List Columns). Fit some (map (λ (table : TableAt). table.schema) tables)) (sym a)
    (subst (λ (some : List Schema). Fit (scans_of tree) some) b (fit_tree tree typed))

pub fit_long : (scans : List Columns) (tables : List TableAt) → Fit scans (map (λ (table : TableAt). table.schema) tables) → length scans ≡ length tables
fit_long [] [] fit = refl
fit_long [] (table ∷ tables) fit = absurd fit
fit_long (columns ∷ scans) [] fit = absurd fit
fit_long (columns ∷ scans) (table ∷ tables) fit = ap suc (fit_long scans tables fit.1)

pub fit_at : (scans : List Columns) (tables : List TableAt) (i : ℕ) (columns : Columns) (table : TableAt) → Fit scans (map (λ (table : TableAt). table.schema) tables) →
    i < length tables → columns ≡ get_or scans i columns → table ≡ get_or tables i table → IsTrue (has_columns (length table.schema.fields) columns)
fit_at [] [] i columns table fit h a b = absurd (omega (arith, h))
fit_at [] (t ∷ tables) i columns table fit h a b = absurd fit
fit_at (c ∷ scans) [] i columns table fit h a b = absurd fit
fit_at (c ∷ scans) (t ∷ tables) zero columns table fit h a b =
    subst (λ (one : Columns). IsTrue (has_columns (length table.schema.fields) one)) (sym a)
    (subst (λ (one : TableAt). IsTrue (has_columns (length one.schema.fields) c)) (sym b) fit.0)
fit_at (c ∷ scans) (t ∷ tables) (suc i) columns table fit h a b = fit_at scans tables i columns table fit.1 (omega (arith, h)) a b

-- what stands at a place of a list, and of what is made of it
pub at_map : {X Y : Type 0} (f : X → Y) (xs : List X) (i : ℕ) (x : X) → i < length xs → x ≡ get_or xs i x → f x ≡ get_or (map f xs) i (f x)
at_map f [] i x h is = absurd (omega (arith, h))
at_map f (y ∷ ys) zero x h is = ap f is
at_map f (y ∷ ys) (suc i) x h is = at_map f ys i x (omega (arith, h)) is

-- what passes a test, all of it
pub all_pass : {X : Type 0} (p : X → Bool) (xs : List X) → list_all p (filter p xs) ≡ true
all_pass p [] = refl
all_pass p (x ∷ xs) = by (cases_Bool (p x)) (all_pass p xs)
  where
    by : (p x ≡ true) ⊎ (p x ≡ false) → list_all p (filter p xs) ≡ true → list_all p (filter p (x ∷ xs)) ≡ true
    by (inl on) rest = ap (λ (b : Bool). list_all p (cond b (x ∷ filter p xs) (filter p xs))) on ∙ and_from (p x) (list_all p (filter p xs)) on rest
    by (inr off) rest = ap (λ (b : Bool). list_all p (cond b (x ∷ filter p xs) (filter p xs))) off ∙ rest

-- ---- the places from one on

module _ (parts : List (Pred ℕ)) (from to : ℕ) where
  -- the rows that are read of a place
  abbrev pub begin_at : ℕ → ℕ
  begin_at zero = from
  begin_at (suc place) = 0

  abbrev pub end_at : ℕ → TableAt → ℕ
  end_at zero table = to
  end_at (suc place) table = length (table_of table).rows

  pub begin_first : (place begin : ℕ) → place ≡ 0 → begin ≡ from → begin ≡ begin_at place
  begin_first zero begin h is = is
  begin_first (suc place) begin h is = absurd (omega (arith, h))

  pub begin_other : (place begin : ℕ) → 0 < place → begin ≡ 0 → begin ≡ begin_at place
  begin_other zero begin h is = absurd (omega (arith, h))
  begin_other (suc place) begin h is = is

  pub end_first : (place : ℕ) (table : TableAt) (end : ℕ) → place ≡ 0 → end ≡ to → end ≡ end_at place table
  end_first zero table end h is = is
  end_first (suc place) table end h is = absurd (omega (arith, h))

  pub end_other : (place : ℕ) (table : TableAt) (end : ℕ) → 0 < place → end ≡ length (table_of table).rows → end ≡ end_at place table
  end_other zero table end h is = absurd (omega (arith, h))
  end_other (suc place) table end h is = is

  -- the lists of places, from this one on, where so many columns stand before theirs
  abbrev pub AreOpened : ℕ → ℕ → List Columns → List TableAt → List OpenedList → Type 0
  AreOpened place first [] [] [] = Unit {0}
  AreOpened place first (columns ∷ scans) (table ∷ tables) (list ∷ lists) =
      (list.numbers.items ≡ place_opened parts first columns (begin_at place) (end_at place table) table)
      × IsListOf (begin_at place) (end_at place table) table list
      × IsKept table (length (table_of table).rows)
      × AreOpened (suc place) (first + given_width columns (length table.schema.fields)) scans tables lists
  AreOpened place first _ _ _ = ⊥

  -- the lists so far, after which those of the other places may stand
  abbrev pub AreBegun : List Columns → List TableAt → ℕ → ℕ → List OpenedList → Type 0
  AreBegun scans tables place first lists =
      (more : List OpenedList) → AreOpened place first (drop place scans) (drop place tables) more → AreOpened 0 0 scans tables (lists ++ more)

  drop_at : {X : Type 0} (xs : List X) (i : ℕ) (x : X) → i < length xs → x ≡ get_or xs i x → drop i xs ≡ x ∷ drop (i + 1) xs
  drop_at [] i x h is = absurd (omega (arith, h))
  drop_at (first ∷ xs) zero x h is = ap (λ one. one ∷ xs) (sym is)
  drop_at (first ∷ xs) (suc i) x h is =
      let e : suc (i + 1) ≡ suc i + 1 = omega arith in
      drop_at xs i x (omega (arith, h)) is ∙ ap (λ (n : ℕ). x ∷ drop n (first ∷ xs)) e

  -- how many batches of the places from this one on have a row that is read
  abbrev pub count_from : ℕ → List TableAt → ℕ
  count_from place [] = 0
  count_from place (table ∷ tables) = length (batches_in (begin_at place) (end_at place table) table.batches) + count_from (suc place) tables

  pub count_next : (tables : List TableAt) (place : ℕ) (table : TableAt) → place < length tables → table ≡ get_or tables place table →
      count_from place (drop place tables)
      ≡ length (batches_in (begin_at place) (end_at place table) table.batches) + count_from (place + 1) (drop (place + 1) tables)
  count_next tables place table there is =
      let e : suc place ≡ place + 1 = omega arith in
      ap (count_from place) (drop_at tables place table there is)
      ∙ ap (λ (n : ℕ). length (batches_in (begin_at place) (end_at place table) table.batches) + count_from n (drop (place + 1) tables)) e

  pub count_none : (tables : List TableAt) (place : ℕ) → length tables ≤ place → count_from place (drop place tables) ≡ 0
  count_none tables place h = ap (count_from place) (drop_all place tables h)

  count_whole : (place : ℕ) (tables : List TableAt) → count_from (suc place) tables ≡ whole_count tables
  count_whole place [] = refl
  count_whole place (table ∷ tables) =
      ap (λ (n : ℕ). length (batches_in 0 (length (table_of table).rows) table.batches) + n) (count_whole (suc place) tables)

  pub count_all : (tables : List TableAt) → count_from 0 tables ≡ judged_count from to tables
  count_all [] = refl
  count_all (table ∷ tables) = ap (λ (n : ℕ). length (batches_in from to table.batches) + n) (count_whole 0 tables)

  -- one place more
  pub begun_more : (scans : List Columns) (tables : List TableAt) (place first : ℕ) (lists news : List OpenedList) (columns : Columns) (table : TableAt) (list : OpenedList) →
      place < length scans → place < length tables → columns ≡ get_or scans place columns → table ≡ get_or tables place table →
      list.numbers.items ≡ place_opened parts first columns (begin_at place) (end_at place table) table →
      IsListOf (begin_at place) (end_at place table) table list → IsKept table (length (table_of table).rows) → news ≡ lists ++ list ∷ [] →
      AreBegun scans tables place first lists → AreBegun scans tables (place + 1) (first + given_width columns (length table.schema.fields)) news
  begun_more scans tables place first lists news columns table list in_scans in_tables is_columns is_table numbers is_list kept is begun more rest =
      let e : place + 1 ≡ suc place = omega arith in
      let wider = first + given_width columns (length table.schema.fields) in
      let others = subst (λ (n : ℕ). AreOpened n wider (drop (place + 1) scans) (drop (place + 1) tables) more) e rest in
      let here : AreOpened place first (columns ∷ drop (place + 1) scans) (table ∷ drop (place + 1) tables) (list ∷ more) = (numbers, is_list, kept, others) in
      let there = subst (λ (some : List Columns). AreOpened place first some (drop place tables) (list ∷ more)) (sym (drop_at scans place columns in_scans is_columns))
      (subst (λ (some : List TableAt). AreOpened place first (columns ∷ drop (place + 1) scans) some (list ∷ more)) (sym (drop_at tables place table in_tables is_table)) here) in
      subst (λ (some : List OpenedList). AreOpened 0 0 scans tables some)
      (sym (append_assoc lists (list ∷ []) more) ∙ ap (λ (some : List OpenedList). some ++ more) (sym is)) (begun (list ∷ more) there)

  -- after the last one
  pub begun_all : (scans : List Columns) (tables : List TableAt) (place first : ℕ) (lists : List OpenedList) → length scans ≤ place → length tables ≤ place →
      AreBegun scans tables place first lists → AreOpened 0 0 scans tables lists
  begun_all scans tables place first lists a b begun =
      let none : AreOpened place first [] [] [] = tt in
      subst (λ (some : List OpenedList). AreOpened 0 0 scans tables some) (append-nil lists)
      (begun [] (subst (λ (some : List Columns). AreOpened place first some (drop place tables) []) (sym (drop_all place scans a))
      (subst (λ (some : List TableAt). AreOpened place first [] some []) (sym (drop_all place tables b)) none)))

  -- ---- what the lists are

  numbers_are : (place first : ℕ) (scans : List Columns) (tables : List TableAt) (lists : List OpenedList) → AreOpened (suc place) first scans tables lists →
      map (λ (list : OpenedList). list.numbers.items) lists ≡ numbers_behind parts first scans tables
  numbers_are place first [] [] [] opened = refl
  numbers_are place first [] [] (list ∷ lists) opened = absurd opened
  numbers_are place first [] (table ∷ tables) lists opened = absurd opened
  numbers_are place first (columns ∷ scans) [] lists opened = absurd opened
  numbers_are place first (columns ∷ scans) (table ∷ tables) [] opened = absurd opened
  numbers_are place first (columns ∷ scans) (table ∷ tables) (list ∷ lists) opened =
      let (numbers, is_list, kept, rest) = opened in
      let wider = first + given_width columns (length table.schema.fields) in
      ap (λ (n : List ℕ). n ∷ map (λ (list : OpenedList). list.numbers.items) lists) numbers
      ∙ ap (λ (some : List (List ℕ)). place_opened parts first columns 0 (length (table_of table).rows) table ∷ some) (numbers_are (suc place) wider scans tables lists rest)

  whole_are : (place first : ℕ) (scans : List Columns) (tables : List TableAt) (lists : List OpenedList) → AreOpened (suc place) first scans tables lists → AreWhole tables lists
  whole_are place first [] [] [] opened = tt
  whole_are place first [] [] (list ∷ lists) opened = absurd opened
  whole_are place first [] (table ∷ tables) lists opened = absurd opened
  whole_are place first (columns ∷ scans) [] lists opened = absurd opened
  whole_are place first (columns ∷ scans) (table ∷ tables) [] opened = absurd opened
  whole_are place first (columns ∷ scans) (table ∷ tables) (list ∷ lists) opened =
      let (numbers, is_list, kept, rest) = opened in
      (is_list, whole_are (suc place) (first + given_width columns (length table.schema.fields)) scans tables lists rest)

  pub kept_are : (place first : ℕ) (scans : List Columns) (tables : List TableAt) (lists : List OpenedList) → AreOpened place first scans tables lists →
      All (λ (table : TableAt). IsKept table (length (table_of table).rows)) tables
  kept_are place first scans [] lists opened = All-nil (λ (table : TableAt). IsKept table (length (table_of table).rows))
  kept_are place first [] (table ∷ tables) lists opened = absurd opened
  kept_are place first (columns ∷ scans) (table ∷ tables) [] opened = absurd opened
  kept_are place first (columns ∷ scans) (table ∷ tables) (list ∷ lists) opened =
      let (numbers, is_list, kept, rest) = opened in
      All-cons (λ (table : TableAt). IsKept table (length (table_of table).rows)) table tables kept
      (kept_are (suc place) (first + given_width columns (length table.schema.fields)) scans tables lists rest)

  pub all_numbers : (scans : List Columns) (tables : List TableAt) (lists : List OpenedList) → 0 < length tables → AreOpened 0 0 scans tables lists →
      map (λ (list : OpenedList). list.numbers.items) lists ≡ first_numbers parts from to scans tables ∷ further_numbers parts scans tables
  all_numbers scans [] lists some opened = absurd (omega (arith, some))
  all_numbers [] (table ∷ tables) lists some opened = absurd opened
  all_numbers (columns ∷ scans) (table ∷ tables) [] some opened = absurd opened
  all_numbers (columns ∷ scans) (table ∷ tables) (list ∷ lists) some opened =
      let (numbers, is_list, kept, rest) = opened in
      let width = given_width columns (length table.schema.fields) in
      let e : 0 + width ≡ width = omega arith in
      ap (λ (n : List ℕ). n ∷ map (λ (list : OpenedList). list.numbers.items) lists) numbers
      ∙ ap (λ (some : List (List ℕ)). place_opened parts 0 columns from to table ∷ some)
      (numbers_are 0 (0 + width) scans tables lists rest ∙ ap (λ (first : ℕ). numbers_behind parts first scans tables) e)

  pub all_lists : (scans : List Columns) (tables : List TableAt) (lists : List OpenedList) → 0 < length tables → AreOpened 0 0 scans tables lists → AreLists from to tables lists
  all_lists scans [] lists some opened = absurd (omega (arith, some))
  all_lists [] (table ∷ tables) lists some opened = absurd opened
  all_lists (columns ∷ scans) (table ∷ tables) [] some opened = absurd opened
  all_lists (columns ∷ scans) (table ∷ tables) (list ∷ lists) some opened =
      let (numbers, is_list, kept, rest) = opened in
      (is_list, whole_are 0 (0 + given_width columns (length table.schema.fields)) scans tables lists rest)
