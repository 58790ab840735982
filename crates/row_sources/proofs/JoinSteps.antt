-- Steps of a join: a joined batch, and a left batch.
use Rattle.std.proofs.Common.{◌≡◌, ◌≤◌, ◌<◌, ◌⊎◌, inl, inr, ℕ, suc, ◌+◌, ◌-◌, List, [], ◌∷◌, ◌++◌, length, map, take, Some, None, refl, sym, ap, ◌∙◌, subst, arith, append_assoc, length-append, length-take}
use Rattle.std.specs.List.{last_or, range_with_len}
use Rattle.std.proofs.lemmas.Grind.{flat_map-append}
use Rattle.std.proofs.lemmas.List.{map-append, length-map, take-take}
use Rattle.std.proofs.lemmas.List.FromFn.{length-range_with_len}
use Rattle.arrow_types.specs.declared.data_type.DataType.{DataType}
use Rattle.arrays.specs.Batch.{BatchAt, row_of, rows_of, cut_batch}
use Rattle.arrays.specs.Column.{ColumnAt}
use Rattle.arrays.specs.TypedLayouts.{AreOf}
use Rattle.join_batches.specs.Joiner.{JoinerAt, joined_with, joined_of, joined_types, GivesJoined, GivesShown}
use Rattle.table_versions.specs.Table.{Row}
use Rattle.table_versions.proofs.Rowing.{length-rows_of}
use Rattle.row_sources.specs.declared.piece.Piece.{Piece}
use Rattle.row_sources.specs.JoinedRows.{numbered_joined, joined_at, IsJoined}
use Rattle.row_sources.specs.Picking.{PickAt, cells_at, given_numbered}
use Rattle.row_sources.specs.PickedRows.{given, given_of_part, IsPicked}
use Rattle.row_sources.specs.Running.{RowsAt, GoesOn, FindsPiece, FindsNone, Ends, picked_of}
use Rattle.row_sources.proofs.Giving.{filter-all}
use Rattle.row_sources.proofs.Piecing.{passed, next_is, given_few}
use Rattle.row_sources.proofs.Selecting.{cuts_have, rows_there}
use Rattle.row_sources.specs.declared.batch_slice.BatchSlice.{BatchSlice}
use Rattle.typed_plan.specs.TypedPlans.{type_at}

-- ---- rows that are joined one by one

-- the joined rows of left rows of one batch
joined_one : (joiner : JoinerAt) (number : ℕ) (lefts : List Row) →
    numbered_joined joiner (map (λ row. (number, row)) lefts) ≡ map (λ row. (number, row)) (joined_of joiner lefts)
joined_one joiner number [] = refl
joined_one joiner number (left ∷ lefts) =
    ap (λ (rest : List (ℕ × Row)). map (λ row. (number, row)) (joined_with joiner left) ++ rest) (joined_one joiner number lefts)
    ∙ sym (map-append (λ row. (number, row)) (joined_with joiner left) (joined_of joiner lefts))

-- and of others after them
joined_more : (joiner : JoinerAt) (number : ℕ) (lefts : List Row) (rest : List (ℕ × Row)) →
    numbered_joined joiner (map (λ row. (number, row)) lefts ++ rest)
    ≡ map (λ row. (number, row)) (joined_of joiner lefts) ++ numbered_joined joiner rest
joined_more joiner number lefts rest =
    flat_map-append (λ (left : ℕ × Row). map (λ row. (left.0, row)) (joined_with joiner left.1)) (map (λ row. (number, row)) lefts) rest
    ∙ ap (λ (some : List (ℕ × Row)). some ++ numbered_joined joiner rest) (joined_one joiner number lefts)

-- all rows of a batch, as a part of it
pub whole_part : (batch : BatchAt) → rows_of (cut_batch batch 0 batch.rows) ≡ rows_of batch
whole_part batch =
    let size : batch.rows - 0 ≡ batch.rows = omega arith in
    rows_there (range_with_len 0 (batch.rows - 0)) batch.columns (cut_batch batch 0 batch.rows) (cuts_have batch.columns 0 batch.rows)
    (sym (length-range_with_len 0 (batch.rows - 0)))
    ∙ ap (λ (n : ℕ). map (row_of batch.columns) (range_with_len 0 n)) size

-- as many columns as types
pub as_many : (types : List DataType) (columns : List ColumnAt) → AreOf types columns → length columns ≡ length types
as_many [] [] typed = refl
as_many [] (column ∷ columns) typed = absurd typed
as_many (data_type ∷ types) [] typed = absurd typed
as_many (data_type ∷ types) (column ∷ columns) typed = ap suc (as_many types columns typed.1)

-- ---- a joined batch

-- a joiner with other rows still to be given
abbrev pub with_ahead : JoinerAt → List Row → JoinerAt
with_ahead joiner rows = record joiner { ahead = rows }

-- the next joined rows, one or more
pub record Takes (joiner : JoinerAt) (rows : List Row) (after : JoinerAt) : Type 0 where
  pub next : joiner.ahead ≡ rows ++ after.ahead
  pub some : 0 < length rows
  pub on : after ≡ with_ahead joiner after.ahead

pub takes_joined : (joiner : JoinerAt) (batch : BatchAt) (after : JoinerAt) → GivesJoined joiner batch after → Takes joiner (rows_of batch) after
takes_joined joiner batch after gives = record {
  next = gives.next;
  some = let size = length-rows_of batch in omega (arith, size, gives.some);
  on = gives.on;
}

takes_shown : (joiner : JoinerAt) (shown : List ℕ) (batch : BatchAt) (after : JoinerAt) → (gives : GivesShown joiner shown batch after) → Takes joiner gives.rows after
takes_shown joiner shown batch after gives = record {
  next = gives.next;
  some =
      let size = length-rows_of batch in
      let long = ap length gives.cells in
      let same = length-map gives.rows (cells_at shown) in
      omega (arith, size, long, same, gives.some);
  on = gives.on;
}

module _ (left : RowsAt) (joiner : JoinerAt) (number : ℕ) (rows : List Row) (after : JoinerAt) (takes : Takes joiner rows after) where
  -- they are the next ones
  rows_next : (joined_at left joiner number).ahead ≡ map (λ row. (number, row)) rows ++ (joined_at left after number).ahead
  rows_next =
      let with_number : List Row → List (ℕ × Row) = λ rows. map (λ row. (number, row)) rows in
      let rest = numbered_joined joiner left.ahead in
      ap (λ (rows : List Row). with_number rows ++ rest) takes.next
      ∙ ap (λ (rows : List (ℕ × Row)). rows ++ rest) (map-append (λ row. (number, row)) rows after.ahead)
      ∙ append_assoc (with_number rows) (with_number after.ahead) rest
      ∙ ap (λ (j : JoinerAt). with_number rows ++ (with_number after.ahead ++ numbered_joined j left.ahead)) (sym takes.on)

  -- fewer joined rows are to come
  rows_fewer : length (joined_at left after number).ahead < length (joined_at left joiner number).ahead
  rows_fewer =
      let long = ap length (rows_next) in
      let both = length-append (map (λ row. (number, row)) rows) (joined_at left after number).ahead in
      let size = length-map {B = ℕ × Row} rows (λ (row : Row). (number, row)) in
      omega (arith, long, both, size, takes.some)

  -- and fewer are to be looked at
  rows_looked : (joined_at left after number).unseen < (joined_at left joiner number).unseen
  rows_looked = omega (arith, rows_fewer)

  -- nothing else is changed
  rows_on : take (length left.opened) left.batches ≡ left.opened → GoesOn (joined_at left joiner number) (joined_at left after number)
  rows_on front = record {
    types = ap joined_types takes.on;
    batches = refl;
    depth = refl;
    opening = take_same left.opened;
    opened = front;
  }
    where
      take_same : (xs : List ℕ) → take (length xs) xs ≡ xs
      take_same [] = refl
      take_same (x ∷ xs) = ap (λ rest. x ∷ rest) (take_same xs)

  -- they come of the batch that was opened last
  rows_latest : (joiner.ahead ≡ []) ⊎ (last_or None left.opened ≡ Some number) → last_or None left.opened ≡ Some number
  rows_latest (inr latest) = latest
  rows_latest (inl none) =
      let long = length-append rows after.ahead in
      absurd (omega (arith, long, takes.some, ap length (sym takes.next ∙ none)))

  rows_joined : IsJoined left joiner number → IsJoined left after number
  rows_joined is = record {
    typed = is.typed ∙ sym (ap (λ (j : JoinerAt). j.left_types) takes.on);
    front = is.front;
    latest = inr (rows_latest is.latest);
  }

module _ (left : RowsAt) (joiner : JoinerAt) (number : ℕ) (batch : BatchAt) (after : JoinerAt) (gives : GivesJoined joiner batch after) where
  -- its rows are the next ones
  pub batch_next : (joined_at left joiner number).ahead ≡ map (λ row. (number, row)) (rows_of batch) ++ (joined_at left after number).ahead
  batch_next = rows_next left joiner number (rows_of batch) after (takes_joined joiner batch after gives)

  pub batch_fewer : length (joined_at left after number).ahead < length (joined_at left joiner number).ahead
  batch_fewer = rows_fewer left joiner number (rows_of batch) after (takes_joined joiner batch after gives)

  pub batch_looked : (joined_at left after number).unseen < (joined_at left joiner number).unseen
  batch_looked = rows_looked left joiner number (rows_of batch) after (takes_joined joiner batch after gives)

  pub batch_on : take (length left.opened) left.batches ≡ left.opened → GoesOn (joined_at left joiner number) (joined_at left after number)
  batch_on front = rows_on left joiner number (rows_of batch) after (takes_joined joiner batch after gives) front

  pub still_joined : IsJoined left joiner number → IsJoined left after number
  still_joined is = rows_joined left joiner number (rows_of batch) after (takes_joined joiner batch after gives) is

  pub batch_latest : (joiner.ahead ≡ []) ⊎ (last_or None left.opened ≡ Some number) → last_or None left.opened ≡ Some number
  batch_latest latest = rows_latest left joiner number (rows_of batch) after (takes_joined joiner batch after gives) latest

pub shown_joined : (left : RowsAt) (joiner : JoinerAt) (number : ℕ) (shown : List ℕ) (batch : BatchAt) (after : JoinerAt) → GivesShown joiner shown batch after →
    IsJoined left joiner number → IsJoined left after number
shown_joined left joiner number shown batch after gives is = rows_joined left joiner number gives.rows after (takes_shown joiner shown batch after gives) is

-- ---- a left batch

module _ (left : RowsAt) (joiner : JoinerAt) (number : ℕ) (piece : Piece) (after : RowsAt) (none : joiner.ahead ≡ []) (finds : FindsPiece left piece after) where
  abbrev pub fed : JoinerAt
  fed = with_ahead joiner (joined_of joiner (rows_of piece.batch))

  -- the joined rows to come are the same
  pub fed_next : (joined_at left joiner number).ahead ≡ (joined_at after fed piece.number).ahead
  fed_next =
      ap (λ (rows : List Row). map (λ row. (number, row)) rows ++ numbered_joined joiner left.ahead) none
      ∙ ap (numbered_joined joiner) finds.next
      ∙ joined_more joiner piece.number (rows_of piece.batch) after.ahead

  pub fed_on : GoesOn (joined_at left joiner number) (joined_at after fed piece.number)
  fed_on = record {
    types = refl;
    batches = finds.on.batches;
    depth = ap (λ (n : ℕ). n + 1) finds.on.depth;
    opening = finds.on.opening;
    opened = finds.on.opened;
  }

  -- its rows were looked at
  pub fed_looked : (joined_at after fed piece.number).unseen < (joined_at left joiner number).unseen
  fed_looked = let same = ap length fed_next in omega (arith, same, finds.looked)

  pub fed_none : FindsNone (joined_at left joiner number) (joined_at after fed piece.number)
  fed_none = record { same = fed_next; looked = omega (arith, fed_looked); on = fed_on }

  -- fewer left rows are to come
  pub fed_fewer : length after.ahead < length left.ahead
  fed_fewer =
      let long = ap length finds.next in
      let both = length-append (map (λ row. (piece.number, row)) (rows_of piece.batch)) after.ahead in
      let size = length-map {B = ℕ × Row} (rows_of piece.batch) (λ (row : Row). (piece.number, row)) in
      let rows = length-rows_of piece.batch in
      omega (arith, long, both, size, rows, finds.some)

-- ---- no left batch

module _ (left : RowsAt) (joiner : JoinerAt) (number : ℕ) (after : RowsAt) (none : joiner.ahead ≡ []) where
  -- what goes on below goes on here
  pub left_on : GoesOn left after → GoesOn (joined_at left joiner number) (joined_at after joiner number)
  left_on on = record {
    types = refl;
    batches = on.batches;
    depth = ap (λ (n : ℕ). n + 1) on.depth;
    opening = on.opening;
    opened = on.opened;
  }

  left_same : left.ahead ≡ after.ahead → (joined_at left joiner number).ahead ≡ (joined_at after joiner number).ahead
  left_same e = ap (λ (rows : List (ℕ × Row)). map (λ row. (number, row)) joiner.ahead ++ numbered_joined joiner rows) e

  pub left_looked : left.ahead ≡ after.ahead → after.unseen < left.unseen → (joined_at after joiner number).unseen < (joined_at left joiner number).unseen
  left_looked e fewer = let same = ap length (left_same e) in omega (arith, same, fewer)

  pub left_none : FindsNone left after → FindsNone (joined_at left joiner number) (joined_at after joiner number)
  left_none is = record {
    same = left_same is.same;
    looked = let same = ap length (left_same is.same) in omega (arith, same, is.looked);
    on = left_on is.on;
  }

-- ---- what is picked of them

goes-goes : (a b c : RowsAt) → GoesOn a b → GoesOn b c → length a.opened ≤ length b.opened → GoesOn a c
goes-goes a b c one other fewer = record {
  types = other.types ∙ one.types;
  batches = other.batches ∙ one.batches;
  depth = other.depth ∙ one.depth;
  opening = sym (take-take (length a.opened) (length b.opened) c.opened fewer) ∙ ap (take (length a.opened)) other.opening ∙ one.opening;
  opened = other.opened;
}

-- what begins with some is no shorter
longer : (whole begin : List ℕ) → take (length begin) whole ≡ begin → length begin ≤ length whole
longer whole begin e = omega (arith, ap length (sym e), length-take (length begin) whole)

pub on_and_on : (a b c : RowsAt) → GoesOn a b → GoesOn b c → GoesOn a c
on_and_on a b c one other = goes-goes a b c one other (longer b.opened a.opened one.opening)

-- the same of what is picked
pub picks_on : (pick : PickAt) (a b : RowsAt) → GoesOn a b → GoesOn (picked_of pick a) (picked_of pick b)
picks_on pick a b on = record {
  types = ap (λ (types : List DataType). map (type_at types) pick.shown) on.types;
  batches = on.batches;
  depth = on.depth;
  opening = on.opening;
  opened = on.opened;
}

pub picks_end : (pick : PickAt) (first a b : RowsAt) → GoesOn first a → given_numbered pick first.ahead ≡ given_numbered pick a.ahead → Ends a b →
    Ends (picked_of pick first) (picked_of pick b)
picks_end pick first a b on same ends = record {
  none = same ∙ ap (given_numbered pick) ends.none;
  still = ap (given_numbered pick) ends.still;
  all = ends.all ∙ on.batches;
  on = picks_on pick first b (on_and_on first a b on ends.on);
}

pub picks_none : (pick : PickAt) (first a b : RowsAt) → GoesOn first a → given_numbered pick first.ahead ≡ given_numbered pick a.ahead → a.unseen ≤ first.unseen →
    FindsNone a b → FindsNone (picked_of pick first) (picked_of pick b)
picks_none pick first a b on same seen none = record {
  same = same ∙ ap (given_numbered pick) none.same;
  looked = omega (arith, seen, none.looked);
  on = picks_on pick first b (on_and_on first a b on none.on);
}

-- a joined batch is passed
pub batch_goes : (first left : RowsAt) (joiner : JoinerAt) (number : ℕ) (batch : BatchAt) (after : JoinerAt) → GivesJoined joiner batch after →
    GoesOn first (joined_at left joiner number) → IsJoined left joiner number → GoesOn first (joined_at left after number)
batch_goes first left joiner number batch after gives on is =
    on_and_on first (joined_at left joiner number) (joined_at left after number) on (batch_on left joiner number batch after gives is.front)

-- a joined batch of which a row is given, or none is
module _ (pick : PickAt) (first left : RowsAt) (joiner : JoinerAt) (number : ℕ) (batch : BatchAt) (after : JoinerAt) (gives : GivesJoined joiner batch after)
    (on : GoesOn first (joined_at left joiner number)) (same : given_numbered pick first.ahead ≡ given_numbered pick (joined_at left joiner number).ahead)
    (seen : (joined_at left joiner number).unseen ≤ first.unseen) (is : IsJoined left joiner number) (part : BatchSlice) (of : part.batch.now ≡ batch) (from : part.from ≡ 0) (to : part.to ≡ batch.rows) where
  part_is : given_of_part pick part ≡ given pick (rows_of batch)
  part_is = rw (of, from, to) (ap (given pick) (whole_part batch))

  pub batch_over : given_of_part pick part ≡ [] → given_numbered pick first.ahead ≡ given_numbered pick (joined_at left after number).ahead
  batch_over none =
      same ∙ passed pick (joined_at left joiner number).ahead (joined_at left after number).ahead number (rows_of batch)
      (batch_next left joiner number batch after gives) (sym part_is ∙ none)

  pub batch_none : given_of_part pick part ≡ [] → FindsNone (picked_of pick first) (picked_of pick (joined_at left after number))
  batch_none none = record {
    same = batch_over none;
    looked = omega (arith, seen, batch_looked left joiner number batch after gives);
    on = picks_on pick first (joined_at left after number) (batch_goes first left joiner number batch after gives on is);
  }

  pub batch_found : (picked : BatchAt) → IsPicked pick part picked →
      FindsPiece (picked_of pick first) (record { batch = picked; number = number }) (picked_of pick (joined_at left after number))
  batch_found picked done =
      let long = length-rows_of picked in
      let size = length-rows_of batch in
      let fewer = given_few pick (rows_of batch) in
      record {
        next = same ∙ next_is pick (joined_at left joiner number).ahead (joined_at left after number).ahead number (rows_of batch) picked
            (batch_next left joiner number batch after gives) (done.rows ∙ part_is);
        latest = batch_latest left joiner number batch after gives is.latest;
        some = done.some;
        few = omega (arith, long, size, fewer, ap length (done.rows ∙ part_is), gives.few);
        typed = subst (λ (types : List DataType). AreOf (map (type_at types) pick.shown) picked.columns) on.types
            (done.typed (joined_types joiner) (subst (λ (b : BatchAt). AreOf (joined_types joiner) b.columns) (sym of) gives.typed));
        looked = omega (arith, seen, batch_looked left joiner number batch after gives);
        on = picks_on pick first (joined_at left after number) (batch_goes first left joiner number batch after gives on is);
      }

-- the shown columns of joined rows, where there is no filter
all_given : (pick : PickAt) (rows : List Row) → pick.filters ≡ [] → given pick rows ≡ map (cells_at pick.shown) rows
all_given pick rows none = ap (map (cells_at pick.shown)) (rw none (filter-all rows))

pub shown_found : (pick : PickAt) (first left : RowsAt) (joiner : JoinerAt) (number : ℕ) (batch : BatchAt) (after : JoinerAt) →
    GivesShown joiner pick.shown batch after → GoesOn first (joined_at left joiner number) →
    given_numbered pick first.ahead ≡ given_numbered pick (joined_at left joiner number).ahead → (joined_at left joiner number).unseen ≤ first.unseen →
    IsJoined left joiner number → pick.filters ≡ [] →
    FindsPiece (picked_of pick first) (record { batch = batch; number = number }) (picked_of pick (joined_at left after number))
shown_found pick first left joiner number batch after gives on same seen is none =
    let takes = takes_shown joiner pick.shown batch after gives in
    record {
      next = same ∙ next_is pick (joined_at left joiner number).ahead (joined_at left after number).ahead number gives.rows batch
          (rows_next left joiner number gives.rows after takes) (gives.cells ∙ sym (all_given pick gives.rows none));
      latest = rows_latest left joiner number gives.rows after takes is.latest;
      some = gives.some;
      few = gives.few;
      typed = subst (λ (types : List DataType). AreOf (map (type_at types) pick.shown) batch.columns) on.types gives.typed;
      looked = let fewer = rows_looked left joiner number gives.rows after takes in omega (arith, seen, fewer);
      on = picks_on pick first (joined_at left after number)
          (on_and_on first (joined_at left joiner number) (joined_at left after number) on (rows_on left joiner number gives.rows after takes is.front));
    }
