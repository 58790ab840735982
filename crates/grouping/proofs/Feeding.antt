-- What feeding leaves, and what it needs.
use Rattle.std.proofs.Common.{◌≡◌, ◌<◌, ℕ, zero, suc, ◌+◌, Bool, true, List, [], ◌∷◌, ◌++◌, length, map, get_or, slice_get, Some, None, Option, Ok, refl, sym, ap, ◌∙◌, subst, arith, nat_lt}
use Rattle.std.specs.List.{list_all}
use Rattle.std.proofs.lemmas.Bool.{and_parts}
use Rattle.std.proofs.lemmas.List.{get_or_default, length-append, length-map}
use borrow.Author.Tests.{ltb-true}
use Rattle.arrow_types.specs.declared.data_type.DataType.{DataType}
use Rattle.scan_base.specs.declared.fault.Fault.{Fault}
use Rattle.arrow_types.specs.declared.data_type.DataType.TheVariants.{Number}
use Rattle.arrow_types.specs.declared.data_type.NumberType.TheVariants.{Integer}
use Rattle.arrays.specs.Batch.{BatchAt, row_of}
use Rattle.arrays.specs.Column.{ColumnAt}
use Rattle.arrays.specs.TypedLayouts.{AreOf, IsOfType}
use Rattle.table_versions.specs.Table.{Row}
use Rattle.typed_plan.specs.Class.{can_sum}
use Rattle.typed_plan.specs.TypedPlans.{has_item, type_at}
use Rattle.typed_plan.specs.declared.plan.Aggregate.{Aggregate}
use Rattle.typed_plan.specs.declared.plan.Aggregate.TheVariants.{Key, CountRows, Count, Sum}
use Rattle.group_slots.specs.Counting.{CanCount, IsIntegers}
use Rattle.group_slots.specs.Adding.{CanCountAll, IsAdded}
use Rattle.grouping.specs.FedRows.{AreTyped, GroupsAt, Holds, HasItems, AreTallied, HasFed, Feeds}
use Rattle.grouping.specs.FoundKeys.{found_in, found_then, first_found}
use Rattle.grouping.specs.inside.Adding.{IsGrown}
use Rattle.grouping.specs.inside.Placing.{ArePlaced, IsBatchAt}
use Rattle.grouping.proofs.Finding.{found_more}
use Rattle.grouping.proofs.Sharing.{fed_tallies}

-- there are as many columns as types
pub as_many : (types : List DataType) (columns : List ColumnAt) → AreOf types columns → length types ≡ length columns
as_many [] [] are = refl
as_many (t ∷ types) (c ∷ columns) are = ap suc (as_many types columns are.1)
as_many [] (c ∷ columns) are = absurd are
as_many (t ∷ types) [] are = absurd are

summed : (t : DataType) (c : ColumnAt) → can_sum t ≡ true → IsOfType t c.layout → IsIntegers c.layout
summed (Number (Integer kind)) c can of = (kind, of)
summed _ c can of = cc

-- a column that is summed has whole numbers
integers_at : (types : List DataType) (columns : List ColumnAt) (place : ℕ) (found : ColumnAt) → AreOf types columns →
    can_sum (type_at types place) ≡ true → slice_get columns place ≡ Some found → IsIntegers found.layout
integers_at [] [] place found are can is = cc
integers_at (t ∷ types) (c ∷ columns) zero found are can is =
    let same : c ≡ found = cc in subst (λ (c : ColumnAt). IsIntegers c.layout) same (summed t c can are.0)
integers_at (t ∷ types) (c ∷ columns) (suc place) found are can is = integers_at types columns place found are.1 can is
integers_at [] (c ∷ columns) place found are can is = absurd are
integers_at (t ∷ types) [] place found are can is = absurd are

-- what an item reads is there
can_count : (keys : ℕ) (types : List DataType) (columns : List ColumnAt) (item : Aggregate) → AreOf types columns →
    has_item keys types item ≡ true → CanCount item columns
can_count keys types columns (Key place) are has = tt
can_count keys types columns CountRows are has = tt
can_count keys types columns (Count column) are has = omega (arith, ltb-true _ _ has, as_many types columns are)
can_count keys types columns (Sum column) are has =
    let parts = and_parts (nat_lt column (length types)) (can_sum (type_at types column)) has in
    (omega (arith, ltb-true _ _ parts.0, as_many types columns are), λ found is. integers_at types columns column found are parts.1 is)

-- what is true of each
pub has_each : {X : Type 0} (p : X → Bool) (xs : List X) (k : ℕ) (d : X) → k < length xs → list_all p xs ≡ true → p (get_or xs k d) ≡ true
has_each p [] k d low all = absurd (omega arith)
has_each p (x ∷ xs) zero d low all = (and_parts (p x) (list_all p xs) all).0
has_each p (x ∷ xs) (suc k) d low all = has_each p xs k d (omega arith) (and_parts (p x) (list_all p xs) all).1

pub can_count_all : (types : List DataType) (keys : List ℕ) (items : List Aggregate) (columns : List ColumnAt) →
    HasItems types keys items → AreOf types columns → CanCountAll items columns
can_count_all types keys items columns has are = record {
  each = λ item low. can_count (length keys) types columns (get_or items item (Key 0)) are
      (has_each (has_item (length keys) types) items item (Key 0) low has.typed);
}

pub keys_there : (types : List DataType) (keys : List ℕ) (columns : List ColumnAt) → AreOf types columns →
    list_all (λ key. nat_lt key (length types)) keys ≡ true → list_all (λ key. nat_lt key (length columns)) keys ≡ true
keys_there types keys columns are there = subst (λ n. list_all (λ key. nat_lt key n) keys ≡ true) (as_many types columns are) there

-- the groups of rows, and of more after them
pub fed_holds : (before after : GroupsAt) (columns : List ColumnAt) (rows : List ℕ) (earlier : List Row) →
    after.keys ≡ before.keys → after.items ≡ before.items → after.count ≡ before.count + length rows →
    length after.tallies ≡ length before.items →
    IsGrown before.items columns before.keys rows before.found after.found before.count before.tallies after.tallies →
    Holds before earlier → Holds after (earlier ++ map (row_of columns) rows)
fed_holds before after columns rows earlier keys items count many grown held =
    let more = map (row_of columns) rows in
    record {
      found = grown.found_is ∙ ap (λ found. found_then before.keys found more) held.found
          ∙ sym (found_more before.keys (first_found before.keys) earlier more)
          ∙ ap (λ keys. found_in keys (earlier ++ more)) (sym keys);
      count = omega (arith, count, held.count, length-append earlier more, length-map rows (row_of columns));
      many = many ∙ ap length (sym items);
      tallied = λ item low.
          let below : item < length before.items = omega (arith, ap length items) in
          let placed = subst (λ found. ArePlaced before.keys columns found rows grown.groups (length rows)) grown.found_is grown.placed in
          let added = subst (λ found. IsAdded (get_or before.items item (Key 0)) columns rows grown.groups (length found) (get_or before.tallies item []) (get_or after.tallies item [])) grown.found_is
          (grown.added.added item below) in
          let done = fed_tallies before.keys columns rows grown.groups earlier (get_or before.items item (Key 0)) (get_or before.tallies item []) (get_or after.tallies item [])
          before.found held.found placed added (held.tallied item below) in
          subst (λ found. AreTallied after.keys found (earlier ++ more) (get_or after.items item (Key 0)) (get_or after.tallies item [])) (sym grown.found_is)
          (subst (λ keys. AreTallied keys (found_then before.keys before.found more) (earlier ++ more) (get_or after.items item (Key 0)) (get_or after.tallies item [])) (sym keys)
          (subst (λ items. AreTallied before.keys (found_then before.keys before.found more) (earlier ++ more) (get_or items item (Key 0)) (get_or after.tallies item [])) (sym items) done));
    }

-- what was not refused and has fed the rows feeds them
feeds_ok : (before after : GroupsAt) (rows : List Row) → before.refused ≡ None → HasFed before after rows → Feeds before (Ok tt) after rows
feeds_ok before after rows none fed =
    let now : HasFed (record before { refused = None }) after rows = record {
      alike = record { batches = fed.alike.batches; types = fed.alike.types; keys = fed.alike.keys; items = fed.alike.items };
      refused = fed.refused;
      count = fed.count;
      held = λ earlier h. fed.held earlier (record { found = h.found; count = h.count; many = h.many; tallied = h.tallied });
    } in
    subst (λ (refused : Option Fault). Feeds (record before { refused = refused }) (Ok tt) after rows) (sym none) now

-- rows that are added are fed
pub feeds_all : (inside before after : GroupsAt) (batch fed : BatchAt) (rows : List ℕ) → inside ≡ before → batch ≡ fed → inside.refused ≡ None →
    after.batches ≡ inside.batches → after.types ≡ inside.types → after.keys ≡ inside.keys → after.items ≡ inside.items → after.refused ≡ None →
    after.count ≡ inside.count + length rows → length after.tallies ≡ length inside.items →
    IsGrown inside.items batch.columns inside.keys rows inside.found after.found inside.count inside.tallies after.tallies →
    Feeds before (Ok tt) after (map (row_of fed.columns) rows)
feeds_all inside before after batch fed rows is same none batches types keys items still count many grown =
    let more = map (row_of batch.columns) rows in
    subst (λ (fed : BatchAt). Feeds before (Ok tt) after (map (row_of fed.columns) rows)) same
    (subst (λ (b : GroupsAt). Feeds b (Ok tt) after more) is
    (feeds_ok inside after more none (record {
      alike = record { batches = batches; types = types; keys = keys; items = items };
      refused = still;
      count = omega (arith, count, length-map rows (row_of batch.columns));
      held = λ earlier held. fed_holds inside after batch.columns rows earlier keys items count many grown held;
    })))

-- the batch of a number is of the types
pub record IsFed (types : List DataType) (batches : List BatchAt) (number : ℕ) (batch : BatchAt) : Type 0 where
  pub stands : IsBatchAt batches number batch
  pub typed : AreOf types batch.columns

pub fed_batch : (inside before : GroupsAt) (number : ℕ) (d : BatchAt) → inside ≡ before → AreTyped inside.types inside.batches → number < length before.batches →
    IsFed inside.types inside.batches number (get_or inside.batches number d)
fed_batch inside before number d same typed low =
    let there : number < length inside.batches = omega (arith, low, ap (λ (g : GroupsAt). length g.batches) same) in
    record {
      stands = record { there = there; same = get_or_default inside.batches number d (record { columns = []; rows = 0 }) there };
      typed = typed number d there;
    }
