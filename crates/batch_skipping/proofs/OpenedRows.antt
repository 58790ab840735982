-- Worked rows: which batches are opened, worked out by hand.
use Rattle.std.proofs.Common.{◌≡◌, ℕ, List, [], ◌∷◌, None, refl, pos}
use Rattle.arrow_types.specs.declared.data_type.IntegerType.TheVariants.{Int8}
use Rattle.arrow_types.specs.declared.schema.Schema.{Schema}
use Rattle.arrays.specs.declared.layout.Layout.TheVariants as layout
use Rattle.arrays.specs.Batch.{BatchAt}
use Rattle.arrays.specs.Number.{element_at}
use Rattle.batch_skipping.specs.PredicateTruths.{can_compare}
use Rattle.scan_base.specs.declared.comparison.Comparison.{Comparison}
use Rattle.scan_base.specs.declared.comparison.Comparison.TheVariants.{Equal, Less, Greater}
use Rattle.scan_base.specs.declared.predicate.Operand.{Operand}
use Rattle.scan_base.specs.declared.predicate.Operand.TheVariants as operand
use Rattle.scan_base.specs.declared.value.Value.TheVariants.{Int}
use Rattle.scan_base.specs.Predicate.{Pred, conjunction, comparing}
use Rattle.table_versions.specs.StoredTables.{TableAt}
use Rattle.table_versions.specs.Table.{Name}
use Rattle.typed_plan.specs.declared.plan.Columns.{Columns}
use Rattle.typed_plan.specs.declared.plan.Columns.TheVariants.{All, These}
use Rattle.typed_plan.specs.declared.plan.JoinKey.{JoinKey}
use Rattle.typed_plan.specs.Plan.{Tree, scan, filtered, joined}
use Rattle.batch_skipping.specs.OpenedBatches.{first_numbers, further_numbers, numbered_batches, place_opened, scans_of, where_parts}

abbrev number : ℕ → Operand ℕ
number n = operand.Literal (Int (pos n))

-- a column and a number, and two columns
abbrev test : Comparison → ℕ → ℕ → Pred ℕ
test comparison column n = comparing comparison (operand.Column column) (number n)

abbrev is_less : ℕ → ℕ → Pred ℕ
is_less column other = comparing Less (operand.Column column) (operand.Column other)

abbrev one_is_two : Pred ℕ
one_is_two = comparing Equal (number 1) (number 2)

-- a batch of one column with two numbers
abbrev pair : ℕ → ℕ → BatchAt
pair first second = record {
  columns = record { layout = layout.Integers (record { integer = Int8; validity = None; values = first ∷ second ∷ []; len = 2 }); first = 0; len = 2 } ∷ [];
  rows = 2;
}

module _ (schema : Schema) (t u : Name) (on : List JoinKey) where
  -- batches 1, 2 and 10, 11
  abbrev steps : TableAt
  steps = record { schema = schema; batches = pair 1 2 ∷ pair 10 11 ∷ [] }

  abbrev only_column : Columns
  only_column = These (0 ∷ [])

  -- of one place: a > 5, over all rows and over the first three and the first two
  above_five : place_opened (test Greater 0 5 ∷ []) 0 only_column 0 4 steps ≡ 1 ∷ []
  unfolding can_compare element_at
  above_five = refl

  above_five-three : place_opened (test Greater 0 5 ∷ []) 0 only_column 0 3 steps ≡ 1 ∷ []
  unfolding can_compare element_at
  above_five-three = refl

  above_five-two : place_opened (test Greater 0 5 ∷ []) 0 only_column 0 2 steps ≡ []
  unfolding can_compare element_at
  above_five-two = refl

  -- without a conjunct the range alone counts
  range_alone : place_opened [] 0 only_column 1 3 steps ≡ 0 ∷ 1 ∷ []
  range_alone = refl

  -- both places of a join are steps: column 0 is of the first, and column 1 of the second
  abbrev both : Tree
  both = joined (scan t schema only_column) (scan u schema only_column) on

  abbrev with_where : Pred ℕ → Tree
  with_where predicate = filtered predicate both

  abbrev first : Pred ℕ → List ℕ
  first predicate = first_numbers (where_parts (with_where predicate)) 0 4 (scans_of (with_where predicate)) (steps ∷ steps ∷ [])

  abbrev second : Pred ℕ → List (List ℕ)
  second predicate = further_numbers (where_parts (with_where predicate)) (scans_of (with_where predicate)) (steps ∷ steps ∷ [])

  -- x.a > 5 AND y.a < 5 AND x.a < y.a: each place by its own conjunct
  abbrev apart : Pred ℕ
  apart = conjunction (conjunction (test Greater 0 5) (test Less 1 5)) (is_less 0 1)

  apart-first : first apart ≡ 1 ∷ []
  unfolding can_compare element_at
  apart-first = refl

  apart-second : second apart ≡ (0 ∷ []) ∷ []
  unfolding can_compare element_at
  apart-second = refl

  -- 1 = 2 names no column, so it counts at each place
  none-first : first one_is_two ≡ []
  unfolding can_compare element_at
  none-first = refl

  none-second : second one_is_two ≡ [] ∷ []
  unfolding can_compare element_at
  none-second = refl

  -- a filter below a join is no WHERE
  below_a_join : where_parts (joined (filtered one_is_two (scan t schema All)) (scan u schema All) on) ≡ []
  below_a_join = refl

-- batch 1 of the second place, and batches 0 and 2 of the third
numbered : numbered_batches 1 ((1 ∷ []) ∷ (0 ∷ 2 ∷ []) ∷ []) ≡ (1, 1) ∷ (2, 0) ∷ (2, 2) ∷ []
numbered = refl
