-- Where the conjuncts of each place let the same of its rows through, all conjuncts do.
use Rattle.std.proofs.Common.{◌≡◌, ◌⊎◌, inl, inr, ℕ, ◌+◌, Bool, true, false, not, ◌&&◌, List, [], ◌∷◌, ◌++◌, length, map, drop, nat_lt, nat_le, cond, refl, sym, ap, ◌∙◌, subst, arith, append-nil, length-append}
use Rattle.std.specs.List.{filter, list_all}
use Rattle.std.proofs.lemmas.Bool.{and_from, and_parts, both_ways, cases_Bool, leb-true, lt-ltb, ltb-true, le-ltb}
use Rattle.scan_base.specs.declared.predicate.Operand.{Operand}
use Rattle.scan_base.specs.declared.predicate.Operand.TheVariants as operand
use Rattle.scan_base.specs.Predicate.{Pred, conjunction, disjunction, negation, truth_test, comparing, between, membership, null_test, constant, operand_names, names_only}
use Rattle.table_versions.specs.Table.{Row}
use Rattle.typed_plan.specs.declared.plan.Columns.{Columns}
use Rattle.typed_plan.specs.declared.plan.Columns.TheVariants as columns
use Rattle.typed_plan.specs.HeldTables.{tree_schemas}
use Rattle.typed_plan.specs.Plan.{Tree, scan, filtered, joined, is_true, taken}
use Rattle.typed_plan.specs.TypedPlans.{is_place, tree_types}
use Rattle.rewrite.specs.Conjuncts.{all_true, conjuncts, is_between}
use Rattle.rewrite.specs.Laws.{SameThrough}
use Rattle.rewrite.specs.Places.{first_rows, tree_width}
use Rattle.rewrite.specs.PushedFilters.{is_behind, is_left, moved}
use Rattle.batch_skipping.specs.OpenedBatches.{where_parts}

-- ---- tests that more columns pass

module _ {C : Type 0} (f g : C → Bool) (more : (c : C) → f c ≡ true → g c ≡ true) where
  operand_more : (o : Operand C) → operand_names f o ≡ true → operand_names g o ≡ true
  operand_more (operand.Column column) h = more column h
  operand_more other h = refl

  items_more : (items : List (Operand C)) → list_all (operand_names f) items ≡ true → list_all (operand_names g) items ≡ true
  items_more [] h = refl
  items_more (item ∷ items) h =
      let both = and_parts (operand_names f item) (list_all (operand_names f) items) h in
      and_from (operand_names g item) (list_all (operand_names g) items) (operand_more item both.0) (items_more items both.1)

  pub names_more : (p : Pred C) → names_only f p ≡ true → names_only g p ≡ true
  names_more (conjunction p q) h =
      let both = and_parts (names_only f p) (names_only f q) h in
      and_from (names_only g p) (names_only g q) (names_more p both.0) (names_more q both.1)
  names_more (disjunction p q) h =
      let both = and_parts (names_only f p) (names_only f q) h in
      and_from (names_only g p) (names_only g q) (names_more p both.0) (names_more q both.1)
  names_more (negation p) h = names_more p h
  names_more (truth_test negated tested p) h = names_more p h
  names_more (comparing comparison a b) h =
      let both = and_parts (operand_names f a) (operand_names f b) h in
      and_from (operand_names g a) (operand_names g b) (operand_more a both.0) (operand_more b both.1)
  names_more (between negated o low high) h =
      let both = and_parts (operand_names f o) (operand_names f low && operand_names f high) h in
      let ends = and_parts (operand_names f low) (operand_names f high) both.1 in
      and_from (operand_names g o) (operand_names g low && operand_names g high) (operand_more o both.0)
      (and_from (operand_names g low) (operand_names g high) (operand_more low ends.0) (operand_more high ends.1))
  names_more (membership negated o items) h =
      let both = and_parts (operand_names f o) (list_all (operand_names f) items) h in
      and_from (operand_names g o) (list_all (operand_names g) items) (operand_more o both.0) (items_more items both.1)
  names_more (null_test negated o) h = operand_more o h
  names_more (constant truth) h = refl

-- ---- one of several predicates

abbrev pub In : Pred ℕ → List (Pred ℕ) → Type 0
In p [] = ⊥
In p (q ∷ qs) = (q ≡ p) ⊎ In p qs

in_front : (p : Pred ℕ) (xs ys : List (Pred ℕ)) → In p xs → In p (xs ++ ys)
in_front p [] ys i = absurd i
in_front p (x ∷ xs) ys (inl e) = inl e
in_front p (x ∷ xs) ys (inr i) = inr (in_front p xs ys i)

in_back : (p : Pred ℕ) (xs ys : List (Pred ℕ)) → In p ys → In p (xs ++ ys)
in_back p [] ys i = i
in_back p (x ∷ xs) ys i = inr (in_back p xs ys i)

in_either : (p : Pred ℕ) (xs ys : List (Pred ℕ)) → In p (xs ++ ys) → In p xs ⊎ In p ys
in_either p [] ys i = inr i
in_either p (x ∷ xs) ys (inl e) = inl (inl e)
in_either p (x ∷ xs) ys (inr i) = elim (in_either p xs ys i) [
  | inl a ↦ inl (inr a)
  | inr b ↦ inr b
]

in_filter : (test : Pred ℕ → Bool) (p : Pred ℕ) (qs : List (Pred ℕ)) → test p ≡ true → In p qs → In p (filter test qs)
in_filter test p [] h i = i
in_filter test p (q ∷ qs) h (inl e) =
    let on : test q ≡ true = ap test e ∙ h in
    subst (λ (b : Bool). In p (cond b (q ∷ filter test qs) (filter test qs))) (sym on) (inl e)
in_filter test p (q ∷ qs) h (inr i) = by (test q) (in_filter test p qs h i)
  where
    by : (b : Bool) → In p (filter test qs) → In p (cond b (q ∷ filter test qs) (filter test qs))
    by true i = inr i
    by false i = i

in_map : (f : Pred ℕ → Pred ℕ) (p : Pred ℕ) (qs : List (Pred ℕ)) → In p qs → In (f p) (map f qs)
in_map f p [] i = i
in_map f p (q ∷ qs) (inl e) = inl (ap f e)
in_map f p (q ∷ qs) (inr i) = inr (in_map f p qs i)

-- one that is among others, of those that pass a test
from_filter : (test : Pred ℕ → Bool) (p : Pred ℕ) (qs : List (Pred ℕ)) → In p (filter test qs) → (test p ≡ true) × In p qs
from_filter test p [] i = absurd i
from_filter test p (q ∷ qs) i = by (cases_Bool (test q)) (from_filter test p qs)
  where
    by : (test q ≡ true) ⊎ (test q ≡ false) → (In p (filter test qs) → (test p ≡ true) × In p qs) → (test p ≡ true) × In p (q ∷ qs)
    by (inl on) later = elim (subst (λ (b : Bool). In p (cond b (q ∷ filter test qs) (filter test qs))) on i) [
      | inl e ↦ (ap test (sym e) ∙ on, inl e)
      | inr more ↦ let rest = later more in (rest.0, inr rest.1)
    ]
    by (inr off) later =
        let rest = later (subst (λ (b : Bool). In p (cond b (q ∷ filter test qs) (filter test qs))) off i) in (rest.0, inr rest.1)

from_map : (f : Pred ℕ → Pred ℕ) (p : Pred ℕ) (qs : List (Pred ℕ)) → In p (map f qs) → (q : Pred ℕ) × ((f q ≡ p) × In q qs)
from_map f p [] i = absurd i
from_map f p (q ∷ qs) (inl e) = (q, (e, inl refl))
from_map f p (q ∷ qs) (inr i) = let rest = from_map f p qs i in (rest.0, (rest.1.0, inr rest.1.1))

-- ---- rows that they let through

one_true : (p : Pred ℕ) (ps : List (Pred ℕ)) (row : Row) → In p ps → all_true ps row ≡ true → is_true p row ≡ true
one_true p [] row i h = absurd i
one_true p (q ∷ ps) row (inl e) h = ap (λ (x : Pred ℕ). is_true x row) (sym e) ∙ (and_parts (is_true q row) (all_true ps row) h).0
one_true p (q ∷ ps) row (inr i) h = one_true p ps row i (and_parts (is_true q row) (all_true ps row) h).1

-- each of these is among those
abbrev pub Has : List (Pred ℕ) → List (Pred ℕ) → Type 0
Has ps need = (p : Pred ℕ) → In p need → In p ps

all_has : (ps need : List (Pred ℕ)) → Has ps need → (row : Row) → all_true ps row ≡ true → all_true need row ≡ true
all_has ps [] has row h = refl
all_has ps (p ∷ need) has row h =
    and_from (is_true p row) (all_true need row) (one_true p ps row (has p (inl refl)) h) (all_has ps need (λ q i. has q (inr i)) row h)

filter_twice : (f g : Row → Bool) → ((row : Row) → f row ≡ true → g row ≡ true) → (rows : List Row) → filter f (filter g rows) ≡ filter f rows
filter_twice f g more [] = refl
filter_twice f g more (row ∷ rows) = by (cases_Bool (g row)) (cases_Bool (f row)) (filter_twice f g more rows)
  where
    by : (g row ≡ true) ⊎ (g row ≡ false) → (f row ≡ true) ⊎ (f row ≡ false) → filter f (filter g rows) ≡ filter f rows → filter f (filter g (row ∷ rows)) ≡ filter f (row ∷ rows)
    by (inl on) (inl here) rest = rw (on, here) (ap (λ some. row ∷ some) rest)
    by (inl on) (inr out) rest = rw (on, out) rest
    by (inr off) (inl here) rest = absurd (both_ways (g row) off (more row here))
    by (inr off) (inr out) rest = rw (off, out) rest

pub through_more : (ps need : List (Pred ℕ)) → Has ps need → (xs ys : List Row) → filter (all_true need) xs ≡ filter (all_true need) ys →
    filter (all_true ps) xs ≡ filter (all_true ps) ys
through_more ps need has xs ys same =
    sym (filter_twice (all_true ps) (all_true need) (all_has ps need has) xs)
    ∙ ap (filter (all_true ps)) same
    ∙ filter_twice (all_true ps) (all_true need) (all_has ps need has) ys

-- ---- place by place

-- the columns that the scan of a place gives
abbrev pub place_columns : Tree → Columns
place_columns (scan table schema some) = some
place_columns (filtered predicate tree) = place_columns tree
place_columns (joined left right on) = columns.All

-- the conjuncts of the first place, and those of another, whose columns begin at a seam
abbrev pub first_need : List (Pred ℕ) → ℕ → List (Pred ℕ)
first_need parts width = filter (names_only (is_between 0 width)) parts

abbrev pub need_behind : List (Pred ℕ) → ℕ → ℕ → List (Pred ℕ)
need_behind parts seam width = map (moved seam) (filter (names_only (is_between seam width)) parts)

-- the conjuncts of each place let the same of its rows through, of some and of all
abbrev pub PlacesSame : List (Pred ℕ) → Tree → List (List Row) → List (List Row) → Type 0
PlacesSame parts (scan table schema some_columns) some all =
    filter (all_true (first_need parts (tree_width (scan table schema some_columns)))) (taken some_columns (first_rows some))
    ≡ filter (all_true (first_need parts (tree_width (scan table schema some_columns)))) (taken some_columns (first_rows all))
PlacesSame parts (filtered predicate tree) some all = PlacesSame parts tree some all
PlacesSame parts (joined left right on) some all =
    PlacesSame parts left some all
    × (filter (all_true (need_behind parts (tree_width left) (tree_width right))) (taken (place_columns right) (first_rows (drop (length (tree_schemas left)) some)))
    ≡ filter (all_true (need_behind parts (tree_width left) (tree_width right))) (taken (place_columns right) (first_rows (drop (length (tree_schemas left)) all))))

-- each right side is a place
abbrev pub IsDeep : Tree → Type 0
IsDeep (scan table schema some) = Unit {0}
IsDeep (filtered predicate tree) = IsDeep tree
IsDeep (joined left right on) = IsDeep left × (is_place right ≡ true)

place_through : (tree : Tree) → is_place tree ≡ true → (ps need : List (Pred ℕ)) → Has ps need → (some all : List (List Row)) →
    filter (all_true need) (taken (place_columns tree) (first_rows some)) ≡ filter (all_true need) (taken (place_columns tree) (first_rows all)) →
    SameThrough ps tree some all
place_through (scan table schema some_columns) place ps need has some all same =
    through_more ps need has (taken some_columns (first_rows some)) (taken some_columns (first_rows all)) same
place_through (filtered predicate tree) place ps need has some all same =
    place_through tree place (conjuncts predicate ++ ps) need (λ p i. in_back p (conjuncts predicate) ps (has p i)) some all same
place_through (joined left right on) place ps need has some all same = cc

-- what names columns between two numbers
below_end : (width : ℕ) (p : Pred ℕ) → names_only (is_between 0 width) p ≡ true → is_left width p ≡ true
below_end width p h =
    let e : 0 + width ≡ width = omega arith in
    names_more (is_between 0 width) (λ (c : ℕ). nat_lt c width)
    (λ c i. subst (λ (n : ℕ). nat_lt c n ≡ true) e (and_parts (nat_le 0 c) (nat_lt c (0 + width)) i).1) p h

left_more : (seam width : ℕ) (p : Pred ℕ) → is_left seam p ≡ true → is_left (seam + width) p ≡ true
left_more seam width p h =
    names_more (λ (c : ℕ). nat_lt c seam) (λ (c : ℕ). nat_lt c (seam + width)) (λ c i. lt-ltb c (seam + width) (omega (arith, ltb-true c seam i))) p h

between_left : (seam width : ℕ) (p : Pred ℕ) → names_only (is_between seam width) p ≡ true → is_left (seam + width) p ≡ true
between_left seam width p h =
    names_more (is_between seam width) (λ (c : ℕ). nat_lt c (seam + width)) (λ c i. (and_parts (nat_le seam c) (nat_lt c (seam + width)) i).1) p h

between_behind : (seam width : ℕ) (p : Pred ℕ) → names_only (is_between seam width) p ≡ true → is_behind seam p ≡ true
between_behind seam width p h =
    names_more (is_between seam width) (λ (c : ℕ). not (nat_lt c seam))
    (λ c i. ap not (le-ltb c seam (leb-true seam c (and_parts (nat_le seam c) (nat_lt c (seam + width)) i).0))) p h

module _ (parts : List (Pred ℕ)) where
  core_through : (tree : Tree) → IsDeep tree → (ps : List (Pred ℕ)) → ((p : Pred ℕ) → In p parts → is_left (tree_width tree) p ≡ true → In p ps) →
      (some all : List (List Row)) → PlacesSame parts tree some all → SameThrough ps tree some all
  core_through (scan table schema some_columns) deep ps has some all same =
      let width = tree_width (scan table schema some_columns) in
      through_more ps (first_need parts width)
      (λ p i. let q = from_filter (names_only (is_between 0 width)) p parts i in has p q.1 (below_end width p q.0))
      (taken some_columns (first_rows some)) (taken some_columns (first_rows all)) same
  core_through (filtered predicate tree) deep ps has some all same =
      core_through tree deep (conjuncts predicate ++ ps) (λ p i h. in_back p (conjuncts predicate) ps (has p i h)) some all same
  core_through (joined left right on) deep ps has some all same =
      let seam = tree_width left in
      let width = tree_width right in
      let whole : tree_width (joined left right on) ≡ seam + width = joined_width left right in (
        core_through left deep.0 (filter (is_left seam) ps)
            (λ p i h. in_filter (is_left seam) p ps h (has p i (ap (λ (n : ℕ). is_left n p) whole ∙ left_more seam width p h))) some all same.0,
        place_through right deep.1 (map (moved seam) (filter (is_behind seam) ps)) (need_behind parts seam width)
            (λ p i. let q = from_map (moved seam) p (filter (names_only (is_between seam width)) parts) i in
            let r = from_filter (names_only (is_between seam width)) q.0 parts q.1.1 in
            subst (λ (x : Pred ℕ). In x (map (moved seam) (filter (is_behind seam) ps))) q.1.0
            (in_map (moved seam) q.0 (filter (is_behind seam) ps) (in_filter (is_behind seam) q.0 ps (between_behind seam width q.0 r.0)
            (has q.0 r.1 (ap (λ (n : ℕ). is_left n q.0) whole ∙ between_left seam width q.0 r.0)))))
            (drop (length (tree_schemas left)) some) (drop (length (tree_schemas left)) all) same.1,
      )
    where
      joined_width : (left right : Tree) → tree_width (joined left right on) ≡ tree_width left + tree_width right
      joined_width left right = length-append (tree_types left) (tree_types right)

  -- the outermost filters
  outer_through : (tree : Tree) → IsDeep tree → (ps : List (Pred ℕ)) → ((p : Pred ℕ) → In p parts → In p (ps ++ where_parts tree)) →
      (some all : List (List Row)) → PlacesSame parts tree some all → SameThrough ps tree some all
  outer_through (filtered predicate tree) deep ps has some all same =
      outer_through tree deep (conjuncts predicate ++ ps) (λ p i. swapped p (in_either p ps (conjuncts predicate ++ where_parts tree) (has p i))) some all same
    where
      swapped : (p : Pred ℕ) → In p ps ⊎ In p (conjuncts predicate ++ where_parts tree) → In p ((conjuncts predicate ++ ps) ++ where_parts tree)
      swapped p (inl i) = in_front p (conjuncts predicate ++ ps) (where_parts tree) (in_back p (conjuncts predicate) ps i)
      swapped p (inr i) = elim (in_either p (conjuncts predicate) (where_parts tree) i) [
        | inl j ↦ in_front p (conjuncts predicate ++ ps) (where_parts tree) (in_front p (conjuncts predicate) ps j)
        | inr j ↦ in_back p (conjuncts predicate ++ ps) (where_parts tree) j
      ]
  outer_through (scan table schema some_columns) deep ps has some all same =
      core_through (scan table schema some_columns) deep ps (λ p i h. subst (In p) (append-nil ps) (has p i)) some all same
  outer_through (joined left right on) deep ps has some all same =
      core_through (joined left right on) deep ps (λ p i h. subst (In p) (append-nil ps) (has p i)) some all same

pub same_through : (tree : Tree) → IsDeep tree → (some all : List (List Row)) → PlacesSame (where_parts tree) tree some all → SameThrough [] tree some all
same_through tree deep some all same = outer_through (where_parts tree) tree deep [] (λ p i. i) some all same
