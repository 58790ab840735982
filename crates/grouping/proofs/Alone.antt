-- The only group, where no column is the key.
use Rattle.std.proofs.Common.{◌≡◌, ◌<◌, ℕ, ◌+◌, List, [], ◌∷◌, length, map, get_or, replicate, None, Ok, refl, sym, ap, ◌∙◌, subst, arith}
use Rattle.std.specs.List.{range_with_len}
use Rattle.std.proofs.lemmas.List.{get_or-replicate, length-replicate}
use Rattle.std.proofs.lemmas.List.FromFn.{length-range_with_len}
use Rattle.scan_base.specs.declared.value.Value.{Value}
use Rattle.arrays.specs.Batch.{BatchAt, row_of}
use Rattle.arrays.specs.Column.{ColumnAt}
use Rattle.typed_plan.specs.declared.plan.Aggregate.{Aggregate}
use Rattle.group_slots.specs.declared.tally.Tally.{Tally}
use Rattle.group_slots.specs.Adding.{AreAdded}
use Rattle.first_rows.specs.declared.key.RowKey.{RowKey}
use Rattle.grouping.specs.FedRows.{Feeds, GroupsAt}
use Rattle.grouping.specs.inside.Adding.{IsGrown}
use Rattle.grouping.specs.inside.Placing.{found_by}
use Rattle.grouping.proofs.Feeding.{feeds_all}
use Rattle.grouping.proofs.Finding.{found_alone}

no_column : (keys : List ℕ) → length keys ≡ 0 → keys ≡ []
no_column [] none = refl
no_column (key ∷ keys) none = absurd (omega (arith, none))

-- there is one key
pub one_key : (keys : List ℕ) (firsts : List RowKey) → length keys ≡ 0 → length (found_by keys firsts) ≡ 1
one_key keys firsts none = ap (λ (keys : List ℕ). length (found_by keys firsts)) (no_column keys none)

-- the group has each row that is added to it
pub grown_alone : (items : List Aggregate) (columns : List ColumnAt) (from n fed : ℕ) (before after : List (List Tally)) →
    AreAdded items columns (range_with_len from n) (replicate n 0) 1 fed before after (length items) →
    IsGrown items columns [] (range_with_len from n) ([] ∷ []) ([] ∷ []) fed before after
grown_alone items columns from n fed before after added =
    let long = length-range_with_len from n in
    let at : (k : ℕ) → k < length (range_with_len from n) → get_or (replicate n 0) k 0 ≡ 0 = λ k low. get_or-replicate n k 0 0 (omega (arith, long, low)) in
    record {
      found_is = found_alone [] [] (map (row_of columns) (range_with_len from n)) refl;
      groups = replicate n 0;
      placed = record {
        long = length-replicate n 0 ∙ sym long;
        each = at;
        there = λ k low. omega (arith, at k low);
      };
      added = added;
    }

-- rows that are added to it are fed
pub feeds_one : (inside before after : GroupsAt) (batch fed : BatchAt) (firsts : List RowKey) (rows : List ℕ) → inside ≡ before → batch ≡ fed → length before.keys ≡ 0 →
    inside.refused ≡ None → inside.found ≡ found_by inside.keys firsts → after.found ≡ inside.found →
    after.batches ≡ inside.batches → after.types ≡ inside.types → after.keys ≡ inside.keys → after.items ≡ inside.items → after.refused ≡ None →
    after.count ≡ inside.count + length rows → length after.tallies ≡ length inside.items →
    IsGrown inside.items batch.columns [] rows ([] ∷ []) ([] ∷ []) inside.count inside.tallies after.tallies →
    Feeds before (Ok tt) after (map (row_of fed.columns) rows)
feeds_one inside before after batch fed firsts rows is same one none found stays batches types keys items still count many grown =
    let no_key : inside.keys ≡ [] = ap (λ (g : GroupsAt). g.keys) is ∙ no_column before.keys one in
    let alone : inside.found ≡ [] ∷ [] = found ∙ ap (λ (keys : List ℕ). found_by keys firsts) no_key in
    let still_alone : after.found ≡ [] ∷ [] = stays ∙ alone in
    feeds_all inside before after batch fed rows is same none batches types keys items still count many
    (subst (λ (keys : List ℕ). IsGrown inside.items batch.columns keys rows inside.found after.found inside.count inside.tallies after.tallies) (sym no_key)
    (subst (λ (found : List (List Value)). IsGrown inside.items batch.columns [] rows found after.found inside.count inside.tallies after.tallies) (sym alone)
    (subst (λ (found : List (List Value)). IsGrown inside.items batch.columns [] rows ([] ∷ []) found inside.count inside.tallies after.tallies) (sym still_alone) grown)))
