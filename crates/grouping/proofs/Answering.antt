-- Cells of the answer.
use Rattle.std.proofs.Common.{◌≡◌, ◌≤◌, ◌<◌, ℕ, ℤ, zero, suc, ◌+◌, pos, Bool, true, false, if◌then◌else◌, List, [], ◌∷◌, ◌++◌, length, map, get_or, take, Some, None, Option, Result, Ok, Err, IfOk, refl, sym, ap, ◌∙◌, subst, arith}
use Rattle.std.specs.Prelude.{◌==◌}
use Rattle.std.proofs.lemmas.List.{get_or_default, take_all, map-append, map_more}
use Rattle.scan_base.specs.declared.value.Value.{Value}
use Rattle.scan_base.specs.declared.value.Value.TheVariants.{Null, Int}
use Rattle.arrow_types.specs.declared.data_type.DataType.{DataType}
use Rattle.scan_base.specs.Predicate.{cell_in}
use Rattle.arrays.specs.declared.layout.Layout.TheVariants as layout
use Rattle.array_select.specs.declared.of_slots.SlotRef.{SlotRef}
use Rattle.arrays.specs.Batch.{AreLong, BatchAt, row_of}
use Rattle.array_select.specs.OfSlots.{slot_value}
use Rattle.array_select.specs.ColumnValues.{value_or_null}
use Rattle.arrays.specs.Column.{ColumnAt, slot_of}
use Rattle.arrays.specs.TypedLayouts.{AreOf, IsOfType}
use Rattle.arrays.specs.WrittenSlots.{text_bytes}
use Rattle.typed_plan.specs.TypedPlans.{type_at}
use Rattle.group_slots.specs.declared.tally.Tally.{Tally}
use Rattle.group_slots.proofs.Slotted.{cell_slot}
use Rattle.grouping.specs.declared.key.Place.{Place}
use Rattle.grouping.specs.Answers.{IsThere}
use Rattle.grouping.specs.FedRows.{AreTyped, batch_at}
use Rattle.array_select.specs.Fitting.{has_texts}
use Rattle.grouping.specs.inside.Answering.{first_cell, sum_or_none}
use Rattle.grouping.proofs.Feeding.{as_many}
use Rattle.array_select.proofs.Light.{no_text}

-- a count, as a number of a column
abbrev pub count_or_none : ℕ → Option ℤ
count_or_none count = Some (pos count)

pub if_ok : {T E : Type 0} (P Q : T → Type 0) → ((x : T) → P x → Q x) → (r : Result T E) → IfOk r P → IfOk r Q
if_ok P Q f (Ok x) h = f x h
if_ok P Q f (Err e) h = tt

counts_all : (counts : List ℕ) → map (value_or_null Int) (map count_or_none counts) ≡ map (λ (count : ℕ). Int (pos count)) counts
counts_all [] = refl
counts_all (count ∷ counts) = ap (λ rest. Int (pos count) ∷ rest) (counts_all counts)

sum_one : (tally : Tally) → value_or_null Int (sum_or_none tally) ≡ (if tally.count == 0 then Null else Int tally.sum)
sum_one tally = by (tally.count == 0)
  where
    by : (none : Bool) → value_or_null Int (if none then None else Some tally.sum) ≡ (if none then Null else Int tally.sum)
    by true = refl
    by false = refl

sums_all : (tallies : List Tally) → map (value_or_null Int) (map sum_or_none tallies) ≡ map (λ (tally : Tally). if tally.count == 0 then Null else Int tally.sum) tallies
sums_all [] = refl
sums_all (tally ∷ tallies) =
    ap (λ first. first ∷ map (value_or_null Int) (map sum_or_none tallies)) (sum_one tally)
    ∙ ap (λ rest. (if tally.count == 0 then Null else Int tally.sum) ∷ rest) (sums_all tallies)

-- the values of a column of counts
pub counts_of : (counts : List ℕ) (index : ℕ) (values : List (Option ℤ)) → length counts ≤ index → values ≡ map count_or_none (take index counts) →
    map (value_or_null Int) values ≡ map (λ (count : ℕ). Int (pos count)) counts
counts_of counts index values long is =
    ap (map (value_or_null Int)) (is ∙ ap (map count_or_none) (take_all index counts long)) ∙ counts_all counts

-- the values of a column of sums
pub sums_of : (tallies : List Tally) (index : ℕ) (values : List (Option ℤ)) → length tallies ≤ index → values ≡ map sum_or_none (take index tallies) →
    map (value_or_null Int) values ≡ map (λ (tally : Tally). if tally.count == 0 then Null else Int tally.sum) tallies
sums_of tallies index values long is =
    ap (map (value_or_null Int)) (is ∙ ap (map sum_or_none) (take_all index tallies long)) ∙ sums_all tallies

-- a column is of the type at its place
pub typed_at : (types : List DataType) (columns : List ColumnAt) (place : ℕ) (d : ColumnAt) → AreOf types columns → place < length columns →
    IsOfType (type_at types place) (get_or columns place d).layout
typed_at [] [] place d are low = absurd (omega arith)
typed_at (t ∷ types) (c ∷ columns) zero d are low = are.0
typed_at (t ∷ types) (c ∷ columns) (suc place) d are low = typed_at types columns place d are.1 (omega arith)
typed_at [] (c ∷ columns) place d are low = absurd are
typed_at (t ∷ types) [] place d are low = absurd are

-- the type at a place that is there
pub type_there : (types : List DataType) (place : ℕ) (d : DataType) → place < length types → get_or types place d ≡ type_at types place
type_there [] place d low = absurd (omega arith)
type_there (t ∷ types) zero d low = refl
type_there (t ∷ types) (suc place) d low = type_there types place d (omega arith)

-- a slot of a first row is there, in a column of the type at its place
pub slot_there : (columns found : List ColumnAt) (rows place row : ℕ) (column : ColumnAt) → found ≡ columns → AreLong rows found →
    column ≡ get_or found place column → place < length columns → row < rows → (types : List DataType) → AreOf types columns →
    (row < column.len) × IsOfType (type_at types place) column.layout
slot_there columns found rows place row column same long is there within types typed =
    let low : place < length found = omega (arith, ap length same) in
    let wide : (get_or found place column).len ≡ rows = long place column low in (
      omega (arith, wide, ap (λ (c : ColumnAt). c.len) is),
      subst (λ (c : ColumnAt). IsOfType (type_at types place) c.layout) (sym is)
          (typed_at types found place column (subst (AreOf types) (sym same) typed) low),
    )

-- the batch of a first row
pub record IsHome (types : List DataType) (batches : List BatchAt) (first : Place) (batch : BatchAt) : Type 0 where
  pub same : batch ≡ batch_at batches first.batch
  pub typed : AreOf types batch.columns
  pub long : length types ≡ length batch.columns
  pub row : first.row < batch.rows

pub home : (types : List DataType) (batches : List BatchAt) (first : Place) (d : BatchAt) → AreTyped types batches → IsThere batches first →
    IsHome types batches first (get_or batches first.batch d)
home types batches first d typed there =
    let same = get_or_default batches first.batch d (record { columns = []; rows = 0 }) there.batch in
    let of : AreOf types (get_or batches first.batch d).columns = typed first.batch d there.batch in
    record {
      same = same;
      typed = of;
      long = as_many types (get_or batches first.batch d).columns of;
      row = omega (arith, there.row, ap (λ (batch : BatchAt). batch.rows) same);
    }

-- the cell of a first row is a slot of its column
pub cell_is_slot : (types : List DataType) (batches : List BatchAt) (first : Place) (place : ℕ) (batch : BatchAt) (found : List ColumnAt) (column : ColumnAt) →
    IsHome types batches first batch → place < length types → found ≡ batch.columns → column ≡ get_or found place column →
    slot_of column first.row ≡ first_cell batches place first
cell_is_slot types batches first place batch found column at low same is =
    ap (λ (column : ColumnAt). slot_of column first.row) (is ∙ ap (λ (columns : List ColumnAt). get_or columns place column) same)
    ∙ sym (cell_slot batch.columns first.row place column (omega (arith, low, at.long)))
    ∙ ap (λ (batch : BatchAt). cell_in (row_of batch.columns first.row) place) at.same

-- and no text where the type has none
pub no_text_cell : (types : List DataType) (batches : List BatchAt) (place : ℕ) → AreTyped types batches → place < length types →
    has_texts (type_at types place) ≡ false → (first : Place) → IsThere batches first → text_bytes (first_cell batches place first) ≡ []
no_text_cell types batches place typed low plain first there =
    let none : ColumnAt = record { layout = layout.Bools (record { validity = None; values = [] }); first = 0; len = 0 } in
    let batch = batch_at batches first.batch in
    let at = home types batches first (record { columns = []; rows = 0 }) typed there in
    let column = get_or batch.columns place none in
    ap text_bytes (cell_slot batch.columns first.row place none (omega (arith, low, at.long)))
    ∙ no_text (type_at types place) column.layout (column.first + first.row) plain (typed_at types batch.columns place none at.typed (omega (arith, low, at.long)))

-- the values of slots, and of one more
pub values_more : (cell : Place → Value) (firsts : List Place) (index : ℕ) (d : Place) (slots : List SlotRef) (slot : SlotRef) →
    index < length firsts → slot_value slot ≡ cell (get_or firsts index d) →
    map slot_value slots ≡ map cell (take index firsts) → map slot_value (slots ++ slot ∷ []) ≡ map cell (take (index + 1) firsts)
values_more cell firsts index d slots slot low value so =
    map-append slot_value slots (slot ∷ [])
    ∙ ap (λ values. values ++ slot_value slot ∷ []) so
    ∙ ap (λ v. map cell (take index firsts) ++ v ∷ []) value
    ∙ sym (map_more cell firsts index d low)
