-- The batch of a number.
use Rattle.std.specs.Prelude.{IsTrue, IfSome}
use Rattle.std.proofs.Common.{◌≡◌, ℕ, ◌-◌, ◌&&◌, List, length, get_or, Option, Some, None, refl, sym, ap, ◌∙◌, subst, option_map, slice_get}
use Rattle.arrays.specs.Batch.{BatchAt}
use Rattle.batch_stats.specs.Beginnings.{AreBeginnings}
use Rattle.batch_stats.specs.Columns.{stats_if_there, stats_in}
use Rattle.batch_stats.specs.declared.beginnings.Beginnings.{Beginnings}
use Rattle.batch_stats.specs.Stats.{StatsAt}
use Rattle.rewrite.specs.Conjuncts.{is_between}
use Rattle.typed_plan.specs.declared.plan.Columns.TheVariants.{These}
use Rattle.typed_plan.specs.TypedPlans.{has_columns}
use Rattle.batch_skipping.specs.ChosenColumns.{columns_at}
use Rattle.batch_skipping.specs.OpenedBatches.{given_width}
use Rattle.batch_skipping.specs.inside.JudgedBatches.{columns_of}
use Rattle.batch_skipping.proofs.GivenColumns.{these_at}

-- one whose rows are known is there
pub found_batch : (found : Option BatchAt) (rows : ℕ) → option_map (λ (batch : BatchAt). batch.rows) found ≡ Some rows →
    (batch : BatchAt) × (found ≡ Some batch) × (batch.rows ≡ rows)
found_batch None rows is = absurd (let no : ⊥ = cc in no)
found_batch (Some batch) rows is = let same : batch.rows ≡ rows = cc in (batch, refl, same)

-- known statistics are those of its column
pub found_stats : (found : Option BatchAt) (column : ℕ) (stats : StatsAt) → option_map (λ (batch : BatchAt). stats_in batch.columns column) found ≡ Some stats →
    stats ≡ stats_in (columns_of found) column
found_stats None column stats is = absurd (let no : ⊥ = cc in no)
found_stats (Some batch) column stats is = cc

-- also where a scan gives columns by their numbers
pub found_these : (found : Option BatchAt) (numbers : List ℕ) (width first column : ℕ) (stats : StatsAt) → IfSome found (λ batch. length batch.columns ≡ width) →
    IsTrue (has_columns width (These numbers) && is_between first (given_width (These numbers) width) column) →
    option_map (λ (batch : BatchAt). stats_in batch.columns (get_or numbers (column - first) 0)) found ≡ Some stats →
    stats ≡ stats_in (columns_at numbers (columns_of found)) (column - first)
found_these None numbers width first column stats wide has is = absurd (let no : ⊥ = cc in no)
found_these (Some batch) numbers width first column stats wide has is =
    let same : stats_in batch.columns (get_or numbers (column - first) 0) ≡ stats = cc in
    sym same
    ∙ ap stats_if_there (sym (these_at numbers batch.columns first column
    (subst (λ (n : ℕ). IsTrue (has_columns n (These numbers) && is_between first (given_width (These numbers) n) column)) (sym wide) has)))

module _ (batches : List BatchAt) (index : ℕ) where
  -- known beginnings are those of its column's texts
  pub found_beginnings : (column : ℕ) (found : Option Beginnings) →
      IfSome found (λ known. (batch : BatchAt) × (slice_get batches index ≡ Some batch) × AreBeginnings known (stats_in batch.columns column)) →
      IfSome found (λ known. AreBeginnings known (stats_in (columns_of (slice_get batches index)) column))
  found_beginnings column None is = tt
  found_beginnings column (Some known) is =
      subst (λ (some : Option BatchAt). AreBeginnings known (stats_in (columns_of some) column)) (sym is.1) is.2

  -- also where a scan gives columns by their numbers
  pub begun_these : (numbers : List ℕ) (width first column : ℕ) (found : Option Beginnings) →
      IfSome found (λ _. IfSome (slice_get batches index) (λ batch. length batch.columns ≡ width)) →
      IsTrue (has_columns width (These numbers) && is_between first (given_width (These numbers) width) column) →
      IfSome found (λ known. (batch : BatchAt) × (slice_get batches index ≡ Some batch) × AreBeginnings known (stats_in batch.columns (get_or numbers (column - first) 0))) →
      IfSome found (λ known. AreBeginnings known (stats_in (columns_at numbers (columns_of (slice_get batches index))) (column - first)))
  begun_these numbers width first column None wide has is = tt
  begun_these numbers width first column (Some known) wide has is =
      let long : length is.0.columns ≡ width = subst (λ (some : Option BatchAt). IfSome some (λ batch. length batch.columns ≡ width)) is.1 wide in
      let same = found_these (Some is.0) numbers width first column (stats_in is.0.columns (get_or numbers (column - first) 0)) long has refl in
      subst (λ (some : Option BatchAt). AreBeginnings known (stats_in (columns_at numbers (columns_of some)) (column - first))) (sym is.1)
      (subst (λ (stats : StatsAt). AreBeginnings known stats) same is.2)
