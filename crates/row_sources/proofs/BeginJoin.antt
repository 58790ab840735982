-- What gives joined rows, before the first one.
use Rattle.std.proofs.Common.{◌≡◌, ◌≤◌, ◌<◌, ℕ, suc, ◌+◌, Bool, true, false, ◌&&◌, cond, All, List, [], ◌∷◌, ◌++◌, length, map, nat_lt, unwrap_or, Option, refl, sym, ap, ◌∙◌, subst, arith, length-append, inl, get_or, take}
use Rattle.std.specs.Prelude.{◌-◌, not}
use Rattle.std.specs.List.{filter, flat_map, list_all, range_with_len, zip}
use Rattle.std.proofs.lemmas.Bool.{and_parts, ltb-true, ltb-false, lt-ltb}
use Rattle.std.proofs.lemmas.Grind.{flat_map-append}
use Rattle.std.proofs.lemmas.List.{length-map, map-append}
use Rattle.std.proofs.lemmas.List.Elements.{All-append, All-filter, All-map, All-nil}
use Rattle.std.proofs.lemmas.List.FromFn.{length-map-range_with_len}
use Rattle.arrow_types.specs.Answer.{copied_type}
use Rattle.arrow_types.specs.declared.data_type.DataType.{DataType}
use Rattle.arrays.specs.Batch.{BatchAt, rows_of}
use Rattle.hash_join.specs.Pairs.{places, key_values, keys_join}
use Rattle.join_batches.specs.declared.joiner.JoinSides.{JoinSides}
use Rattle.join_batches.specs.Joiner.{JoinerAt, joined_types, joined_with}
use Rattle.scan_base.specs.declared.comparison.Comparison.TheVariants.{Equal}
use Rattle.scan_base.specs.declared.value.Value.{Value}
use Rattle.scan_base.specs.declared.value.Value.TheVariants.{Null}
use Rattle.scan_base.specs.Comparison.{compared}
use Rattle.scan_base.specs.Predicate.{cell_in}
use Rattle.scan_base.specs.Truth.{keeps}
use Rattle.table_versions.specs.Table.{Row}
use Rattle.shared_pages.proofs.Lists.{slice_get-append_left, slice_get-append_right}
use Rattle.table_versions.proofs.Rowing.{rows-cons}
use Rattle.typed_plan.specs.declared.plan.JoinKey.{JoinKey}
use Rattle.typed_plan.specs.Plan.{fits, joined_rows}
use Rattle.typed_plan.specs.TypedPlans.{spans, type_at}
use Rattle.row_sources.specs.JoinParts.{CanJoin, JoinsRows, numbered_fits, HasKeys, AreJoinInputs, all_joined, joiner_with}
use Rattle.row_sources.specs.JoinedRows.{IsJoined, joined_at, numbered_joined}
use Rattle.row_sources.specs.Picking.{IsPick, PickAt, given_numbered}
use Rattle.row_sources.specs.Running.{RowsAt}
use Rattle.row_sources.proofs.BeginPick.{all_given, all_types, all_within, given_wide, pick_with}
use Rattle.row_sources.specs.CollectedRows.{plain_rows}
use Rattle.row_sources.specs.Parts.{numbered_rows}
use Rattle.row_sources.proofs.Giving.{filter-map}

-- ---- rows that fit, by their keys

-- a key that has a cell of both sides
pub spans_both : (seam : ℕ) (key : JoinKey) → spans seam key ≡ true → (key.left < seam) × (seam ≤ key.right)
spans_both seam key h =
    let p = and_parts (nat_lt key.left seam) (not (nat_lt key.right seam)) h in
    (ltb-true key.left seam p.0, ltb-false key.right seam (other (nat_lt key.right seam) p.1))
  where
    other : (b : Bool) → not b ≡ true → b ≡ false
    other true e = sym e
    other false e = refl

-- a joined row fits where the keys of its parts join
fits_is : (on : List JoinKey) (left right : Row) → list_all (spans (length left)) on ≡ true →
    fits on (left ++ right) ≡ keys_join (key_values (map (λ (key : JoinKey). key.left) on) left) (key_values (map (λ (key : JoinKey). key.right - length left) on) right)
fits_is [] left right h = refl
fits_is (key ∷ on) left right h =
    let p = and_parts (spans (length left) key) (list_all (spans (length left)) on) h in
    let both = spans_both (length left) key p.0 in
    let low : cell_in (left ++ right) key.left ≡ cell_in left key.left =
    ap (λ (found : Option Value). unwrap_or found Null) (slice_get-append_left left right key.left both.0) in
    let high : cell_in (left ++ right) key.right ≡ cell_in right (key.right - length left) =
    ap (λ (found : Option Value). unwrap_or found Null) (slice_get-append_right left right (key.right - length left) key.right (omega (arith, both.1))) in
    ap (λ (v : Value). keeps (compared Equal v (cell_in (left ++ right) key.right)) && fits on (left ++ right)) low
    ∙ ap (λ (v : Value). keeps (compared Equal (cell_in left key.left) v) && fits on (left ++ right)) high
    ∙ ap (λ (b : Bool). keeps (compared Equal (cell_in left key.left) (cell_in right (key.right - length left))) && b) (fits_is on left right p.1)

filter_along : (f g : Row → Bool) (rows : List Row) → ((row : Row) → f row ≡ g row) → filter f rows ≡ filter g rows
filter_along f g [] same = refl
filter_along f g (row ∷ rows) same =
    ap (λ (b : Bool). cond b (row ∷ filter f rows) (filter f rows)) (same row)
    ∙ ap (λ (rest : List Row). cond (g row) (row ∷ rest) rest) (filter_along f g rows same)

-- the joined rows of left rows
pub fits_joined : (on : List JoinKey) (joiner : JoinerAt) (seam : ℕ) (lefts : List (ℕ × Row)) → list_all (spans seam) on ≡ true →
    joiner.left_key ≡ map (λ (key : JoinKey). key.left) on → joiner.right_key ≡ map (λ (key : JoinKey). key.right - seam) on →
    All (λ (row : ℕ × Row). length row.1 ≡ seam) lefts → numbered_joined joiner lefts ≡ numbered_fits on joiner.rights lefts
fits_joined on joiner seam [] h l r wide = refl
fits_joined on joiner seam (left ∷ lefts) h l r wide =
    let size : length left.1 ≡ seam = wide 0 left (omega arith) in
    let test : Row → Bool = λ right. keys_join (key_values joiner.left_key left.1) (key_values joiner.right_key right) in
    let same : (right : Row) → test right ≡ fits on (left.1 ++ right) = λ right.
    ap (λ (key : List ℕ). keys_join (key_values key left.1) (key_values joiner.right_key right)) l
    ∙ ap (λ (key : List ℕ). keys_join (key_values (map (λ (k : JoinKey). k.left) on) left.1) (key_values key right)) r
    ∙ ap (λ (n : ℕ). keys_join (key_values (map (λ (k : JoinKey). k.left) on) left.1) (key_values (map (λ (k : JoinKey). k.right - n) on) right)) (sym size)
    ∙ sym (fits_is on left.1 right (subst (λ (n : ℕ). list_all (spans n) on ≡ true) (sym size) h)) in
    let whole : Row → Row = λ right. left.1 ++ right in
    let one : joined_with joiner left.1 ≡ filter (fits on) (map whole joiner.rights) =
    ap (map whole) (filter_along test (λ right. fits on (left.1 ++ right)) joiner.rights same)
    ∙ sym (filter-map (fits on) whole joiner.rights) in
    ap (λ (rows : List Row). map (λ row. (left.0, row)) rows ++ numbered_joined joiner lefts) one
    ∙ ap (λ (rest : List (ℕ × Row)). map (λ row. (left.0, row)) (filter (fits on) (map whole joiner.rights)) ++ rest)
    (fits_joined on joiner seam lefts h l r (λ k d g. wide (suc k) d (omega (arith, g))))

-- ---- part by part

one_part : (on : List JoinKey) (rights : List Row) (number : ℕ) (lefts : List Row) →
    numbered_fits on rights (map (λ row. (number, row)) lefts) ≡ map (λ row. (number, row)) (joined_rows on lefts rights)
one_part on rights number [] = refl
one_part on rights number (left ∷ lefts) =
    let rows = filter (fits on) (map (λ right. left ++ right) rights) in
    ap (λ (rest : List (ℕ × Row)). map (λ row. (number, row)) rows ++ rest) (one_part on rights number lefts)
    ∙ sym (map-append (λ row. (number, row)) rows (joined_rows on lefts rights))

-- what the parts give, joined
pub fits_over : (on : List JoinKey) (rights : List Row) (g : List Row → List Row) (some : List (ℕ × List Row)) →
    numbered_fits on rights (numbered_rows (map (λ (part : ℕ × List Row). (part.0, g part.1)) some))
    ≡ numbered_rows (map (λ (part : ℕ × List Row). (part.0, joined_rows on (g part.1) rights)) some)
fits_over on rights g [] = refl
fits_over on rights g (part ∷ some) =
    let rest = numbered_rows (map (λ (part : ℕ × List Row). (part.0, g part.1)) some) in
    flat_map-append (λ (left : ℕ × Row). map (λ row. (left.0, row)) (filter (fits on) (map (λ right. left.1 ++ right) rights))) (map (λ row. (part.0, row)) (g part.1)) rest
    ∙ ap (λ (first : List (ℕ × Row)). first ++ numbered_fits on rights rest) (one_part on rights part.0 (g part.1))
    ∙ ap (λ (others : List (ℕ × Row)). map (λ row. (part.0, row)) (joined_rows on (g part.1) rights) ++ others) (fits_over on rights g some)

-- ---- how many rows batches have

places_from : (number : ℕ) (batches : List BatchAt) →
    length {A = ℕ × ℕ} (flat_map (λ (p : ℕ × BatchAt). map (λ row. (p.0, row)) (range_with_len 0 p.1.rows)) (zip (range_with_len number (length batches)) batches))
    ≡ length (flat_map rows_of batches)
places_from number [] = refl
places_from number (batch ∷ batches) =
    let rest : List (ℕ × ℕ) = flat_map (λ (p : ℕ × BatchAt). map (λ row. (p.0, row)) (range_with_len 0 p.1.rows)) (zip (range_with_len (number + 1) (length batches)) batches) in
    let with_number : ℕ → ℕ × ℕ = λ row. (number, row) in
    let both = length-append (map with_number (range_with_len 0 batch.rows)) rest in
    omega (arith, both, length-map-range_with_len with_number 0 batch.rows, rows-cons batch batches, places_from (number + 1) batches)

-- as many places as rows
pub places_many : (batches : List BatchAt) → length (places batches) ≡ length (flat_map rows_of batches)
places_many batches = places_from 0 batches

-- no more batches than rows, where each has some
pub batches_few : (batches : List BatchAt) → All (λ (batch : BatchAt). 0 < batch.rows) batches → length batches ≤ length (flat_map rows_of batches)
batches_few [] filled = omega arith
batches_few (batch ∷ batches) filled =
    let here : 0 < batch.rows = filled 0 batch (omega arith) in
    omega (arith, here, rows-cons batch batches, batches_few batches (λ k d h. filled (suc k) d (omega (arith, h))))

-- ---- the columns of the keys

pub left_there : (seam : ℕ) (on : List JoinKey) → list_all (spans seam) on ≡ true → list_all (λ column. nat_lt column seam) (map (λ (key : JoinKey). key.left) on) ≡ true
left_there seam [] h = refl
left_there seam (key ∷ on) h =
    let p = and_parts (spans seam key) (list_all (spans seam) on) h in
    let both = spans_both seam key p.0 in
    rw (lt-ltb key.left seam both.0, left_there seam on p.1) refl

pub right_there : (seam more : ℕ) (on : List JoinKey) → list_all (spans seam) on ≡ true → list_all (λ (key : JoinKey). nat_lt key.right (seam + more)) on ≡ true →
    list_all (λ column. nat_lt column more) (map (λ (key : JoinKey). key.right - seam) on) ≡ true
right_there seam more [] h there = refl
right_there seam more (key ∷ on) h there =
    let p = and_parts (spans seam key) (list_all (spans seam) on) h in
    let q = and_parts (nat_lt key.right (seam + more)) (list_all (λ (key : JoinKey). nat_lt key.right (seam + more)) on) there in
    let both = spans_both seam key p.0 in
    let low = ltb-true key.right (seam + more) q.0 in
    rw (lt-ltb (key.right - seam) more (omega (arith, both.1, low)), right_there seam more on p.1 q.1) refl

-- ---- joined rows before the first one

-- rows that fit are as wide as both sides
fits_wide : (on : List JoinKey) (a b : ℕ) (rights : List Row) (lefts : List (ℕ × Row)) → All (λ (row : Row). length row ≡ b) rights →
    All (λ (row : ℕ × Row). length row.1 ≡ a) lefts → All (λ (row : ℕ × Row). length row.1 ≡ a + b) (numbered_fits on rights lefts)
fits_wide on a b rights [] right left = All-nil (λ (row : ℕ × Row). length row.1 ≡ a + b)
fits_wide on a b rights (first ∷ lefts) right left =
    let here : length first.1 ≡ a = left 0 first (omega arith) in
    All-append (λ (row : ℕ × Row). length row.1 ≡ a + b) (map (λ row. (first.0, row)) (filter (fits on) (map (λ right. first.1 ++ right) rights))) (numbered_fits on rights lefts)
    (All-map (λ (row : ℕ × Row). length row.1 ≡ a + b) (λ row. (first.0, row)) (filter (fits on) (map (λ right. first.1 ++ right) rights))
    (All-filter (fits on) (λ (row : Row). length row ≡ a + b) (map (λ right. first.1 ++ right) rights)
    (All-map (λ (row : Row). length row ≡ a + b) (λ right. first.1 ++ right) rights
    (λ k d h. omega (arith, length-append first.1 (get_or rights k d), right k d h, here)))))
    (fits_wide on a b rights lefts right (λ k d h. left (suc k) d (omega (arith, h))))

module _ (on : List JoinKey) (left right : RowsAt) (can : CanJoin on left right) where
  abbrev pub the_joiner : JoinerAt
  the_joiner = record {
    left_types = left.types;
    right_types = right.types;
    left_key = map (λ (key : JoinKey). key.left) on;
    right_key = map (λ (key : JoinKey). key.right - length left.types) on;
    rights = plain_rows right.ahead;
    ahead = [];
  }

  abbrev pub all_types_of : List DataType
  all_types_of = joined_types the_joiner

  abbrev pub the_pick : PickAt
  the_pick = pick_with [] (range_with_len 0 (length all_types_of))

  as_wide : length left.types + length right.types ≡ length all_types_of
  as_wide = sym (length-map (left.types ++ right.types) copied_type ∙ length-append left.types right.types)

  rows_wide : All (λ (row : ℕ × Row). length row.1 ≡ length all_types_of) (numbered_fits on (plain_rows right.ahead) left.ahead)
  rows_wide =
      subst (λ (n : ℕ). All (λ (row : ℕ × Row). length row.1 ≡ n) (numbered_fits on (plain_rows right.ahead) left.ahead)) as_wide
      (fits_wide on (length left.types) (length right.types) (plain_rows right.ahead) left.ahead
      (All-map (λ (row : Row). length row ≡ length right.types) (λ (row : ℕ × Row). row.1) right.ahead can.right_wide) can.left_wide)

  pub joins_begun : JoinsRows on left right (all_joined left the_joiner)
  joins_begun = record {
    types = all_types all_types_of;
    ahead = ap (given_numbered the_pick) (fits_joined on the_joiner (length left.types) left.ahead can.spanned refl refl can.left_wide)
        ∙ all_given (length all_types_of) (numbered_fits on (plain_rows right.ahead) left.ahead) rows_wide;
    wide = given_wide the_pick (length (all_joined left the_joiner).types) (sym (length-map the_pick.shown (type_at all_types_of))) (joined_at left the_joiner 0).ahead;
    batches = refl;
    opened = can.left_unopened;
  }

  pub joins_source : IsJoined left the_joiner 0
  joins_source = record {
    typed = refl;
    front = subst (λ (opened : List ℕ). take (length opened) left.batches ≡ opened) (sym can.left_unopened) refl;
    latest = inl refl;
  }

  made_is : (lefts rights : List DataType) (left_key right_key : List ℕ) → lefts ≡ left.types → rights ≡ right.types →
      left_key ≡ map (λ (key : JoinKey). key.left) on → right_key ≡ map (λ (key : JoinKey). key.right - length left.types) on →
      record { left_types = lefts; right_types = rights; left_key = left_key; right_key = right_key; rights = plain_rows right.ahead; ahead = [] } ≡ the_joiner
  made_is lefts rights left_key right_key a b c d = rw (a, b, c, d) refl

  module _ (sides : JoinSides) (is : AreJoinInputs on left.types right.types sides) where
    pub joiner_is : joiner_with sides (plain_rows right.ahead) ≡ the_joiner
    joiner_is =
        made_is sides.left.types.items sides.right.types.items sides.left.key.items sides.right.key.items is.left_types is.right_types is.left_key is.right_key

    pub keys_there : HasKeys sides
    keys_there = record {
      alike = ap length is.left_key ∙ length-map on (λ (key : JoinKey). key.left) ∙ sym (length-map on (λ (key : JoinKey). key.right - length left.types)) ∙ sym (ap length is.right_key);
      left = subst (λ (key : List ℕ). list_all (λ column. nat_lt column (length sides.left.types.items)) key ≡ true) (sym is.left_key)
          (subst (λ (some : List DataType). list_all (λ column. nat_lt column (length some)) (map (λ (key : JoinKey). key.left) on) ≡ true) (sym is.left_types)
          (left_there (length left.types) on can.spanned));
      right = subst (λ (key : List ℕ). list_all (λ column. nat_lt column (length sides.right.types.items)) key ≡ true) (sym is.right_key)
          (subst (λ (some : List DataType). list_all (λ column. nat_lt column (length some)) (map (λ (key : JoinKey). key.right - length left.types) on) ≡ true) (sym is.right_types)
          (right_there (length left.types) (length right.types) on can.spanned can.there));
    }

-- all columns are there
pub all_pick : (width : ℕ) → IsPick width (pick_with [] (range_with_len 0 width))
all_pick width = record { read = all_within width; shown = all_within width; named = λ k d h. absurd (omega (arith, h)) }
