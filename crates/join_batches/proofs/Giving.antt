-- What a joiner gives next.
use Rattle.std.proofs.Common.{◌≡◌, ◌<◌, ℕ, ◌+◌, List, [], ◌∷◌, ◌++◌, All, Option, Some, None, Result, Ok, Err, length, map, take, drop, nat_lt, slice_get, unwrap_or, refl, sym, ap, ◌∙◌, subst, arith, true, append_assoc, length-append, length-drop}
use Rattle.std.specs.declared.alloc.AllocError.{AllocError}
use Rattle.std.specs.List.{list_all, range_with_len}
use Rattle.std.proofs.lemmas.List.{get_or-map, length-map, map-append, take-append-drop, drop-drop}
use Rattle.std.proofs.lemmas.List.Elements.{All-head, All-tail}
use Rattle.std.proofs.lemmas.Option.{unwrap_or-slice_get}
use Rattle.arrow_types.specs.declared.data_type.DataType.{DataType}
use Rattle.arrow_types.specs.declared.data_type.DataType.TheVariants.{Utf8}
use Rattle.arrow_types.specs.Answer.{copied_type}
use Rattle.scan_base.specs.declared.value.Value.{Value}
use Rattle.arrays.specs.Batch.{BatchAt, rows_of}
use Rattle.arrays.specs.TypedLayouts.{AreOf}
use Rattle.hash_join.specs.declared.pair.Pair.{Pair}
use Rattle.hash_join.specs.Pairs.{pairs_ahead}
use Rattle.join_batches.specs.declared.joiner.BuiltSides.{BuiltSides}
use Rattle.join_batches.specs.declared.joiner.Joiner.TheInside.{Inside}
use Rattle.join_batches.specs.declared.left_pairs.LeftPairs.{LeftPairs}
use Rattle.join_batches.specs.declared.batch_sides.BatchSides.{BatchSides}
use Rattle.join_batches.specs.Joiner.{JoinerAt, GivesShown, JoinsNext, JoinsShown, joined_type, joined_types, shown_cells}
use Rattle.join_batches.specs.Rows.{pair_row}
use Rattle.join_batches.specs.BatchSides.{AreSides, AreColumnsOf, IsPairBatch, copied_at, rows_at, side_types, width_of}
use Rattle.join_batches.specs.BuiltSides.{AreBuilt}
use Rattle.join_batches.specs.HeldRows.{joiner_of, sides_of, IsJoiner}
use Rattle.join_batches.specs.LeftPairs.{IsLeft, KeepsPairs, pairs_left}
use Rattle.join_batches.proofs.Made.{all_cells}
use Rattle.join_batches.proofs.Typed.{all_types, all_within, typed_long}

-- the columns of a left batch's key are there
pub left_key : (sides : BuiltSides) (left : LeftPairs) → AreBuilt sides → IsLeft sides left → 0 < left.batch.rows →
    list_all (λ column. nat_lt column (length left.batch.columns)) sides.left.key.items ≡ true
left_key sides left built held some =
    ap (λ (n : ℕ). list_all (λ column. nat_lt column n) sides.left.key.items) (typed_long sides.left.types.items left.batch.columns (held.typed some))
    ∙ built.key_there

-- a joiner with this left batch
abbrev pub with_left : Inside → LeftPairs → Inside
with_left j left = record j { left = left }

-- where it keeps its pairs, the same joined rows are to be given
pub same_rows : (j : Inside) (left : LeftPairs) → KeepsPairs (sides_of j) j.left left → joiner_of (with_left j left) ≡ joiner_of j
same_rows j left keeps =
    ap (λ (batch : BatchAt). record (joiner_of j) { ahead = map (pair_row (sides_of j).build.batches batch) (pairs_left (sides_of j) left) }) keeps.batch
    ∙ ap (λ (pairs : List Pair). record (joiner_of j) { ahead = map (pair_row (sides_of j).build.batches j.left.batch) pairs }) keeps.same

-- the sides of a joiner with a pair to give
pub sides_are : (j : Inside) (sides : BatchSides) → IsJoiner j → sides.left.now ≡ j.left.batch → sides.left_types.now ≡ (sides_of j).left.types.items →
    sides.rights.now ≡ (sides_of j).build.batches → sides.right_types.now ≡ (sides_of j).right_types.items → j.left.given < length j.left.pairs.items → AreSides sides
sides_are j sides held left left_types rights right_types more =
    let pair = held.left.pairs_there j.left.given (record { left = 0; batch = 0; row = 0 }) more in
    record {
      left = subst (λ (batch : BatchAt). AreOf sides.left_types.now batch.columns) (sym left)
          (subst (λ (types : List DataType). AreOf types j.left.batch.columns) (sym left_types) (held.left.typed (omega (arith, pair.left_row))));
      rights = subst (λ (batches : List BatchAt). All (λ (batch : BatchAt). AreOf sides.right_types.now batch.columns) batches) (sym rights)
          (subst (λ (types : List DataType). All (λ (batch : BatchAt). AreOf types batch.columns) (sides_of j).build.batches) (sym right_types) held.built.rights_typed);
    }

-- the types of both sides, and how many there are
both_types : (j : Inside) (left right : List DataType) → left ≡ (sides_of j).left.types.items → right ≡ (sides_of j).right_types.items →
    left ++ right ≡ (sides_of j).left.types.items ++ (sides_of j).right_types.items
both_types j left right one other =
    ap (λ (types : List DataType). types ++ right) one ∙ ap (λ (types : List DataType). (sides_of j).left.types.items ++ types) other

all_wide : (j : Inside) (left right : List DataType) → left ≡ (sides_of j).left.types.items → right ≡ (sides_of j).right_types.items →
    length left + length right ≡ length (joined_types (joiner_of j))
all_wide j left right one other =
    sym (length-append left right) ∙ ap length (both_types j left right one other)
    ∙ sym (length-map ((sides_of j).left.types.items ++ (sides_of j).right_types.items) copied_type)

-- columns of joined rows are columns of both sides
pub shown_there : (j : Inside) (before : JoinerAt) (left right : List DataType) (shown : List ℕ) → joiner_of j ≡ before → left ≡ (sides_of j).left.types.items →
    right ≡ (sides_of j).right_types.items → list_all (λ number. nat_lt number (length (joined_types before))) shown ≡ true →
    All (λ number. number < length left + length right) shown
shown_there j before left right shown same one other all =
    let width : length left + length right ≡ length (joined_types before) =
    all_wide j left right one other ∙ ap (λ (joiner : JoinerAt). length (joined_types joiner)) same in
    subst (λ (n : ℕ). All (λ (number : ℕ). number < n) shown) (sym width) (all_within (length (joined_types before)) shown all)

-- the types of these columns
types_same : (j : Inside) (sides : BatchSides) (shown : List ℕ) → side_types sides ≡ (sides_of j).left.types.items ++ (sides_of j).right_types.items →
    AreColumnsOf sides shown → map (copied_at sides) shown ≡ map (joined_type (joiner_of j)) shown
types_same j sides [] same within = refl
types_same j sides (number ∷ shown) same within =
    let low : number < width_of sides = All-head (λ (number : ℕ). number < width_of sides) number shown within in
    let all = length-append sides.left_types.now sides.right_types.now in
    let one : copied_at sides number ≡ joined_type (joiner_of j) number =
    sym (get_or-map copied_type (side_types sides) number Utf8 Utf8 (omega (arith, low, all)))
    ∙ sym (unwrap_or-slice_get (map copied_type (side_types sides)) number Utf8)
    ∙ ap (λ (types : List DataType). unwrap_or (slice_get (map copied_type types) number) Utf8) same in
    ap (λ (data_type : DataType). data_type ∷ map (copied_at sides) shown) one
    ∙ ap (λ (types : List DataType). joined_type (joiner_of j) number ∷ types)
    (types_same j sides shown same (All-tail (λ (number : ℕ). number < width_of sides) number shown within))

-- these columns of the next rows, and the rows after them
pub gives_shown : (j : Inside) (sides : BatchSides) (shown : List ℕ) (pairs : List Pair) (batch : BatchAt) (rows : ℕ) → IsJoiner j → sides.left.now ≡ j.left.batch →
    sides.left_types.now ≡ (sides_of j).left.types.items → sides.rights.now ≡ (sides_of j).build.batches → sides.right_types.now ≡ (sides_of j).right_types.items →
    pairs ≡ drop j.left.given j.left.pairs.items → rows ≡ batch.rows → AreColumnsOf sides shown → IsPairBatch sides shown pairs batch →
    GivesShown (joiner_of j) shown batch (joiner_of (with_left j (record j.left { given = j.left.given + rows })))
gives_shown j sides shown pairs batch rows held left left_types rights right_types are size within is =
    let row = pair_row (sides_of j).build.batches j.left.batch in
    let some = drop j.left.given j.left.pairs.items in
    let ahead = pairs_ahead (sides_of j).build j.left.batch (sides_of j).left.key.items j.left.probe in
    let same : rows_at sides (take batch.rows pairs) ≡ map row (take rows some) =
    ap (λ (b : BatchAt). map (pair_row sides.rights.now b) (take batch.rows pairs)) left
    ∙ ap (λ (batches : List BatchAt). map (pair_row batches j.left.batch) (take batch.rows pairs)) rights
    ∙ ap (λ (found : List Pair). map row (take batch.rows found)) are ∙ ap (λ (n : ℕ). map row (take n some)) (sym size) in
    let parts : some ++ ahead ≡ take rows some ++ (drop (j.left.given + rows) j.left.pairs.items ++ ahead) =
    ap (λ (all : List Pair). all ++ ahead) (sym (take-append-drop rows some)) ∙ append_assoc (take rows some) (drop rows some) ahead
    ∙ ap (λ (rest : List Pair). take rows some ++ (rest ++ ahead)) (drop-drop rows j.left.given j.left.pairs.items) in
    record {
      rows = map row (take rows some);
      next = ap (map row) parts ∙ map-append row (take rows some) (drop (j.left.given + rows) j.left.pairs.items ++ ahead);
      wide = subst (λ (n : ℕ). All (λ (row : List Value). length row ≡ n) (map row (take rows some))) (all_wide j sides.left_types.now sides.right_types.now left_types right_types)
          (subst (All (λ (row : List Value). length row ≡ width_of sides)) same is.wide);
      cells = is.rows_are ∙ ap (map (shown_cells shown)) same;
      some = is.some;
      few =
          let long = ap length are in
          let rest = length-drop j.left.given j.left.pairs.items in
          let most = held.left.pairs_few in
          let few = is.few in
          omega (arith, long, rest, most, few);
      typed = subst (λ (some : List DataType). AreOf some batch.columns) (types_same j sides shown (both_types j sides.left_types.now sides.right_types.now left_types right_types) within) is.typed;
      room = is.room;
      on = refl;
    }

-- all columns of the next rows
pub all_shown : (before after : JoinerAt) (shown : List ℕ) (made : Result (Option BatchAt) AllocError) → shown ≡ range_with_len 0 (length (joined_types before)) →
    JoinsShown before shown made after → JoinsNext before made after
all_shown before after shown (Ok (Some batch)) is gives =
    let same : rows_of batch ≡ gives.rows =
    gives.cells ∙ ap (λ (numbers : List ℕ). map (shown_cells numbers) gives.rows) is ∙ all_cells (length (joined_types before)) gives.rows gives.wide in
    record {
      next = gives.next ∙ ap (λ (rows : List (List Value)). rows ++ after.ahead) (sym same);
      some = gives.some;
      few = gives.few;
      typed = subst (λ (types : List DataType). AreOf types batch.columns)
          (ap (map (joined_type before)) is ∙ all_types (joined_types before)) gives.typed;
      room = gives.room;
      on = gives.on;
    }
all_shown before after shown (Ok None) is none = none
all_shown before after shown (Err refused) is same = same
