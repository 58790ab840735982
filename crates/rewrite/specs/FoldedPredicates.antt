-- Predicates whose literals are worked out.
use Rattle.std.specs.Prelude.{◌≡◌, ℕ, Bool, true, false, not, ◌&&◌, if◌then◌else◌}
use Rattle.scan_base.specs.declared.value.Value.{Value}
use Rattle.scan_base.specs.declared.value.Value.TheVariants.{Null}
use Rattle.typed_plan.specs.Plan.{Tree, scan, filtered, joined}
use Rattle.scan_base.specs.Predicate.{Pred, conjunction, disjunction, negation, truth_test}
use Rattle.scan_base.specs.Predicate.{comparing, between, membership, null_test, constant, truth_of}
use Rattle.scan_base.specs.Predicate.{names_only}

-- whether a predicate is a comparison, BETWEEN, IN or IS NULL
abbrev pub is_atom : {C : Type 0} → Pred C → Bool
is_atom (comparing comparison a b) = true
is_atom (between negated a low high) = true
is_atom (membership negated a items) = true
is_atom (null_test negated a) = true
is_atom _ = false

-- whether a predicate names no column
abbrev pub names_none : {C : Type 0} → Pred C → Bool
names_none predicate = names_only (λ column. false) predicate

-- one that names no column becomes its truth
abbrev pub folded_atom : {C : Type 0} → Pred C → Pred C
folded_atom predicate =
    if names_none predicate then constant (truth_of (λ column. Null) predicate) else predicate

-- each comparison, BETWEEN, IN and IS NULL of literals alone becomes its truth
abbrev pub folded : {C : Type 0} → Pred C → Pred C
folded (conjunction p q) = conjunction (folded p) (folded q)
folded (disjunction p q) = disjunction (folded p) (folded q)
folded (negation p) = negation (folded p)
folded (truth_test negated tested p) = truth_test negated tested (folded p)
folded (constant truth) = constant truth
folded (comparing comparison a b) = folded_atom (comparing comparison a b)
folded (between negated a low high) = folded_atom (between negated a low high)
folded (membership negated a items) = folded_atom (membership negated a items)
folded (null_test negated a) = folded_atom (null_test negated a)

-- whether each comparison, BETWEEN, IN and IS NULL names a column
abbrev pub is_folded : {C : Type 0} → Pred C → Bool
is_folded (conjunction p q) = is_folded p && is_folded q
is_folded (disjunction p q) = is_folded p && is_folded q
is_folded (negation p) = is_folded p
is_folded (truth_test negated tested p) = is_folded p
is_folded (constant truth) = true
is_folded p = not (names_none p)

-- a folded predicate has the truth that it had: unknown stays unknown
abbrev pub FoldingKeepsTruths : Type 0
FoldingKeepsTruths = (predicate : Pred ℕ) (cell : ℕ → Value) →
    truth_of cell (folded predicate) ≡ truth_of cell predicate

abbrev pub FoldedNamesColumns : Type 0
FoldedNamesColumns = (predicate : Pred ℕ) → is_folded (folded predicate) ≡ true

-- a tree whose filters are folded
abbrev pub folded_tree : Tree → Tree
folded_tree (scan table schema columns) = scan table schema columns
folded_tree (filtered predicate tree) = filtered (folded predicate) (folded_tree tree)
folded_tree (joined left right on) = joined (folded_tree left) (folded_tree right) on

-- whether each filter of a tree is folded
abbrev pub is_folded_tree : Tree → Bool
is_folded_tree (scan table schema columns) = true
is_folded_tree (filtered predicate tree) = is_folded predicate && is_folded_tree tree
is_folded_tree (joined left right on) = is_folded_tree left && is_folded_tree right
