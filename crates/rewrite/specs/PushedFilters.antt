-- Filters below joins.
use Rattle.std.specs.Prelude.{ℕ, ◌-◌, Bool, true, not, ◌&&◌, ◌||◌, nat_lt, List, [], ◌∷◌, ◌++◌, map}
use Rattle.std.specs.List.{filter, list_all}
use Rattle.scan_base.specs.Predicate.{Pred, names_only}
use Rattle.rewrite.specs.Conjuncts.{conjuncts, parts_of, all_of, is_of_one_place, place_widths}
use Rattle.rewrite.specs.Places.{tree_width}
use Rattle.typed_plan.specs.NumberedPredicates.{predicate_map}
use Rattle.typed_plan.specs.Plan.{Tree, scan, filtered, joined}
use Rattle.typed_plan.specs.TypedPlans.{is_place}

-- whether a predicate names none but the first `seam` columns
abbrev pub is_left : ℕ → Pred ℕ → Bool
is_left seam predicate = names_only (λ column. nat_lt column seam) predicate

-- whether it names none of them
abbrev pub is_behind : ℕ → Pred ℕ → Bool
is_behind seam predicate = names_only (λ column. not (nat_lt column seam)) predicate

-- whether it goes to the right: one that names no column goes to the left
abbrev pub is_right : ℕ → Pred ℕ → Bool
is_right seam predicate = not (is_left seam predicate) && is_behind seam predicate

-- whether it stays above
abbrev pub is_both : ℕ → Pred ℕ → Bool
is_both seam predicate = not (is_left seam predicate) && not (is_behind seam predicate)

-- with the numbers of the columns after the seam
abbrev pub moved : ℕ → Pred ℕ → Pred ℕ
moved seam predicate = predicate_map (λ column. column - seam) predicate

-- a tree below one filter of these parts, in their order
abbrev pub above : List (Pred ℕ) → Tree → Tree
above [] tree = tree
above (part ∷ parts) tree = filtered (all_of part parts) tree

-- a tree below these parts of filters, each of which stands as low as it may: one that names
-- columns of both sides of a join stands above it
abbrev pub pushed : List (Pred ℕ) → Tree → Tree
pushed predicates (scan table schema columns) = above predicates (scan table schema columns)
pushed predicates (filtered predicate tree) = pushed (parts_of predicate ++ predicates) tree
pushed predicates (joined left right on) =
    let seam = tree_width left in
    above (filter (is_both seam) predicates)
    (joined (pushed (filter (is_left seam) predicates) left)
    (pushed (map (moved seam) (filter (is_right seam) predicates)) right) on)

-- whether no outermost conjunct of a filter that names columns of exactly one place stands above a
-- join
abbrev pub is_pushed : Tree → Bool
is_pushed (scan table schema columns) = true
is_pushed (filtered predicate tree) =
    (is_place tree
    || list_all (λ part. not (is_of_one_place (place_widths tree) part)) (conjuncts predicate))
    && is_pushed tree
is_pushed (joined left right on) = is_pushed left && is_pushed right
