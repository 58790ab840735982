-- Worked rows: predicates folded, filters pushed below joins, and columns left out, worked out by hand.
use Rattle.std.proofs.Common.{◌≡◌, ℕ, List, [], ◌∷◌, refl, pos}
use Rattle.arrow_types.specs.declared.schema.Schema.{Schema}
use Rattle.scan_base.specs.declared.comparison.Comparison.TheVariants.{Less, Equal}
use Rattle.scan_base.specs.declared.predicate.Operand.{Operand}
use Rattle.scan_base.specs.declared.predicate.Operand.TheVariants as operand
use Rattle.scan_base.specs.declared.truth.Truth.{Truth}
use Rattle.scan_base.specs.declared.truth.Truth.TheVariants.{True, False, Unknown}
use Rattle.scan_base.specs.declared.value.Value.TheVariants.{Null, Int}
use Rattle.scan_base.specs.Predicate.{Pred, conjunction, disjunction, negation, comparing, constant}
use Rattle.table_versions.specs.Table.{Name}
use Rattle.typed_plan.specs.declared.plan.Aggregate.TheVariants.{CountRows}
use Rattle.typed_plan.specs.declared.plan.Columns.TheVariants.{These}
use Rattle.typed_plan.specs.declared.plan.JoinKey.{JoinKey}
use Rattle.typed_plan.specs.declared.plan.Output.TheVariants.{Project, Groups}
use Rattle.typed_plan.specs.Plan.{Tree, scan, filtered, joined}
use Rattle.rewrite.specs.Conjuncts.{parts_of}
use Rattle.rewrite.specs.FoldedPredicates.{folded}
use Rattle.rewrite.specs.PrunedColumns.{pruned, output_in}
use Rattle.rewrite.specs.PushedFilters.{pushed}
use Rattle.rewrite.specs.Uses.{uses_of}

abbrev number : ℕ → Operand ℕ
number n = operand.Literal (Int (pos n))

-- column = n
abbrev is : ℕ → ℕ → Pred ℕ
is column n = comparing Equal (operand.Column column) (number n)

abbrev known : Truth → Pred ℕ
known truth = constant truth

-- 1 = 2 is false, and 1 < NULL unknown
two_numbers : folded (comparing Equal (number 1) (number 2)) ≡ known False
two_numbers = refl

null_is_unknown : folded (negation (comparing Less (number 1) (operand.Literal Null))) ≡ negation (known Unknown)
null_is_unknown = refl

-- a comparison with a column stays, and an OR with a truth too
a_column_stays : folded (disjunction (is 0 1) (comparing Equal (number 1) (number 1))) ≡ disjunction (is 0 1) (constant True)
a_column_stays = refl

-- of `a = 1 AND 1 = 1` the comparison of the column is left
sure_is_left_out : parts_of (folded (conjunction (is 0 1) (comparing Equal (number 1) (number 1)))) ≡ is 0 1 ∷ []
sure_is_left_out = refl

-- two columns of t, and one of u
module _ (t u : Name) (one other : Schema) (on : List JoinKey) where
  abbrev left : Tree
  left = scan t one (These (0 ∷ 1 ∷ []))

  abbrev right : Tree
  right = scan u other (These (0 ∷ []))

  abbrev of_both : Pred ℕ
  of_both = comparing Less (operand.Column 1) (operand.Column 2)

  -- each part goes to its side, and what names columns of both stays above
  each_to_its_side : pushed [] (filtered (conjunction (conjunction (conjunction (is 0 7) (is 2 8)) of_both) (is 1 9)) (joined left right on))
      ≡ filtered of_both (joined (filtered (conjunction (is 0 7) (is 1 9)) left) (filtered (is 0 8) right) on)
  each_to_its_side = refl

  -- what names no column goes to the first place, and what is always true is left out
  false_to_the_first : pushed [] (filtered (conjunction (constant False) (constant True)) (joined left right on))
      ≡ joined (filtered (constant False) left) right on
  false_to_the_first = refl

  -- COUNT(*) reads no column
  count_reads_none : pruned (uses_of left (Groups [] (CountRows ∷ []))) left ≡ scan t one (These [])
  count_reads_none = refl

  -- the second column of t and the one of u are to be equal, and the result takes that of u: the first of t is left out, and
  -- the others are counted again
  abbrev same : JoinKey
  same = record { left = 1; right = 2 }

  abbrev both : Tree
  both = joined left right (same ∷ [])

  key_is_used : pruned (uses_of both (Project (These (2 ∷ [])))) both
      ≡ joined (scan t one (These (1 ∷ []))) (scan u other (These (0 ∷ []))) (record { left = 0; right = 1 } ∷ [])
  key_is_used = refl

  result_counted_anew : output_in (uses_of both (Project (These (2 ∷ [])))) (Project (These (2 ∷ []))) ≡ Project (These (1 ∷ []))
  result_counted_anew = refl

  -- a column that a filter alone names is read
  filter_is_used : pruned (uses_of (filtered (is 1 7) left) (Groups [] (CountRows ∷ []))) (filtered (is 1 7) left)
      ≡ filtered (is 0 7) (scan t one (These (1 ∷ [])))
  filter_is_used = refl
