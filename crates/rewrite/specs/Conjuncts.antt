-- The parts of a predicate that its outermost ANDs join, and which columns they name.
use Rattle.std.specs.Prelude.{ℕ, ◌+◌, Bool, true, false, not, ◌&&◌, ◌||◌, nat_le, nat_lt, List, []}
use Rattle.std.specs.Prelude.{◌∷◌, ◌++◌}
use Rattle.std.specs.List.{list_all, filter}
use Rattle.scan_base.specs.declared.truth.Truth.TheVariants.{True}
use Rattle.scan_base.specs.Predicate.{Pred, conjunction, constant, names_only}
use Rattle.rewrite.specs.Places.{tree_width}
use Rattle.table_versions.specs.Table.{Row}
use Rattle.typed_plan.specs.Plan.{Tree, scan, filtered, joined, is_true}

-- the parts that the outermost ANDs join, in order
abbrev pub conjuncts : {C : Type 0} → Pred C → List (Pred C)
conjuncts (conjunction p q) = conjuncts p ++ conjuncts q
conjuncts p = p ∷ []

-- whether a predicate is the constant TRUE
abbrev pub is_sure : {C : Type 0} → Pred C → Bool
is_sure (constant True) = true
is_sure predicate = false

-- those that have to be looked at
abbrev pub parts_of : {C : Type 0} → Pred C → List (Pred C)
parts_of predicate = filter (λ part. not (is_sure part)) (conjuncts predicate)

-- these joined by ANDs, from the left
abbrev pub all_of : {C : Type 0} → Pred C → List (Pred C) → Pred C
all_of first [] = first
all_of first (part ∷ parts) = all_of (conjunction first part) parts

-- whether all of these are true in a row
abbrev pub all_true : List (Pred ℕ) → Row → Bool
all_true predicates row = list_all (λ predicate. is_true predicate row) predicates

-- whether a predicate names a column
abbrev pub names_some : Pred ℕ → Bool
names_some predicate = not (names_only (λ column. false) predicate)

-- whether a column is one of `width`, of which the first has this number
abbrev pub is_between : ℕ → ℕ → ℕ → Bool
is_between first width column = nat_le first column && nat_lt column (first + width)

-- whether all columns that a predicate names are of one of the places that have so many columns,
-- from this number on
abbrev pub is_of_one : ℕ → List ℕ → Pred ℕ → Bool
is_of_one first [] predicate = false
is_of_one first (width ∷ widths) predicate =
    names_only (is_between first width) predicate || is_of_one (first + width) widths predicate

-- whether a predicate names columns of exactly one place
abbrev pub is_of_one_place : List ℕ → Pred ℕ → Bool
is_of_one_place widths predicate = names_some predicate && is_of_one 0 widths predicate

-- how many columns each place of a tree has
abbrev pub place_widths : Tree → List ℕ
place_widths (scan table schema columns) = tree_width (scan table schema columns) ∷ []
place_widths (filtered predicate tree) = place_widths tree
place_widths (joined left right on) = place_widths left ++ place_widths right
