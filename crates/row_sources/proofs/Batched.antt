-- The rows of a range, batch by batch.
use Rattle.std.proofs.Common.{◌≡◌, ◌≤◌, ◌<◌, ℕ, zero, suc, ◌+◌, ◌-◌, List, [], ◌∷◌, ◌++◌, length, map, take, drop, min, append_assoc, slice_get, Some, refl, sym, ap, ◌∙◌, arith, length-append, length-drop, length-take, length-take-le, zip, take-add, drop-drop}
use Rattle.std.specs.List.{flat_map, range_with_len}
use Rattle.std.proofs.lemmas.List.{take-append-drop, drop_all, length-map, map-append}
use Rattle.arrays.specs.Batch.{BatchAt, rows_of}
use Rattle.table_versions.specs.Standing.{rows_before}
use Rattle.table_versions.specs.Table.{Row}
use Rattle.table_versions.proofs.Places.{split_at}
use Rattle.table_versions.proofs.Rowing.{length-rows_of, rows-cons}
use Rattle.typed_plan.specs.JoinedRows.{rows_between}
use Rattle.row_sources.specs.Parts.{parts, numbered_rows}

take_none : {X : Type 0} (n : ℕ) (xs : List X) → xs ≡ [] → take n xs ≡ []
take_none zero xs e = refl
take_none (suc n) xs e = rw e refl

pub none_behind : (from to : ℕ) (rows : List Row) → length rows ≤ from → rows_between from to rows ≡ []
none_behind from to rows h = take_none (to - from) (drop from rows) (drop_all from rows h)

pub none_between : (from to : ℕ) (rows : List Row) → to ≤ from → rows_between from to rows ≡ []
none_between from to rows h =
    let e : to - from ≡ 0 = omega (arith, h) in
    ap (λ (n : ℕ). take n (drop from rows)) e

-- a range is one part of it and then the other
pub between_parts : (a b c : ℕ) (rows : List Row) → a ≤ b → b ≤ c →
    rows_between a c rows ≡ rows_between a b rows ++ rows_between b c rows
between_parts a b c rows low high =
    let size : c - a ≡ (b - a) + (c - b) = omega (arith, low, high) in
    let there : a + (b - a) ≡ b = omega (arith, low) in
    ap (λ (n : ℕ). take n (drop a rows)) size ∙ take-add (b - a) (c - b) (drop a rows)
    ∙ ap (λ (rest : List Row). take (b - a) (drop a rows) ++ take (c - b) rest) (drop-drop (b - a) a rows ∙ ap (λ (n : ℕ). drop n rows) there)

-- the batches counted from some number on
abbrev pub numbered_from : ℕ → ℕ → ℕ → List BatchAt → List (ℕ × Row)
numbered_from n from to batches = numbered_rows (zip (range_with_len n (length batches)) (parts from to batches))

-- a range has no more rows than there are
pub from_few : (n from to : ℕ) (batches : List BatchAt) → length (numbered_from n from to batches) ≤ length (flat_map rows_of batches)
from_few n from to [] = omega arith
from_few n from to (batch ∷ batches) =
    let some = rows_between from to (rows_of batch) in
    let with_number : Row → ℕ × Row = λ row. (n, row) in
    let rest = numbered_from (n + 1) (from - batch.rows) (to - batch.rows) batches in
    let both = length-append (map with_number some) rest in
    let size = length-map some with_number in
    let cut = length-take (to - from) (drop from (rows_of batch)) in
    let behind = from_few (n + 1) (from - batch.rows) (to - batch.rows) batches in
    omega (arith, both, size, cut, length-drop from (rows_of batch), length-append (rows_of batch) (flat_map rows_of batches), behind)

-- no rows of no range
pub none_from : (n from to : ℕ) (batches : List BatchAt) → to ≤ from → numbered_from n from to batches ≡ []
none_from n from to [] h = refl
none_from n from to (batch ∷ batches) h =
    rw (none_between from to (rows_of batch) h) (none_from (n + 1) (from - batch.rows) (to - batch.rows) batches (omega (arith, h)))

-- batches that end before a range have nothing of it
past : (k from to n i : ℕ) (front rest : List BatchAt) → n ≡ length (flat_map rows_of front) → n ≤ from → i ≡ k + length front →
    numbered_from k from to (front ++ rest) ≡ numbered_from i (from - n) (to - n) rest
past k from to n i [] rest e h place =
    let one : from - n ≡ from = omega (arith, e) in
    let other : to - n ≡ to = omega (arith, e) in
    let same : i ≡ k = omega (arith, place) in
    rw (one, other, same) refl
past k from to n i (batch ∷ front) rest e h place =
    let long = rows-cons batch front in
    let none = none_behind from to (rows_of batch) (omega (arith, length-rows_of batch, e, long, h)) in
    let m = length (flat_map rows_of front) in
    let one : from - batch.rows - m ≡ from - n = omega (arith, e, long) in
    let other : to - batch.rows - m ≡ to - n = omega (arith, e, long) in
    rw none
    (past (k + 1) (from - batch.rows) (to - batch.rows) m i front rest refl (omega (arith, e, long, h)) (omega (arith, place))
    ∙ ap (λ (a : ℕ). numbered_from i a (to - batch.rows - m) rest) one ∙ ap (λ (b : ℕ). numbered_from i (from - n) b rest) other)

same_at : (i a b c x y z : ℕ) (batch : BatchAt) (behind : List BatchAt) → x ≡ a → y ≡ b → z ≡ c →
    map (λ row. (i, row)) (rows_between x z (rows_of batch)) ++ numbered_from (i + 1) y (z - batch.rows) behind
    ≡ map (λ row. (i, row)) (rows_between a c (rows_of batch)) ++ numbered_from (i + 1) b (c - batch.rows) behind
same_at i a b c x y z batch behind e f g = rw (e, f, g) refl

-- a range that begins in a batch
in_batch : (from to start i a b c : ℕ) (batches : List BatchAt) (batch : BatchAt) → slice_get batches i ≡ Some batch → i < length batches →
    start ≡ rows_before batches i → start ≤ from → from - start ≡ a → from - start - batch.rows ≡ b → to - start ≡ c →
    numbered_from 0 from to batches
    ≡ map (λ row. (i, row)) (rows_between a c (rows_of batch)) ++ numbered_from (i + 1) b (c - batch.rows) (drop (i + 1) batches)
in_batch from to start i a b c batches batch there within s low e f g =
    let split = split_at batches i batch there in
    let before = length-take-le i batches (omega (arith, within)) in
    let whole : take i batches ++ (batch ∷ drop (i + 1) batches) ≡ batches =
    ap (λ (some : List BatchAt). take i batches ++ some) (sym split.0) ∙ take-append-drop i batches in
    ap (numbered_from 0 from to) (sym whole)
    ∙ past 0 from to start i (take i batches) (batch ∷ drop (i + 1) batches) s low (omega (arith, before))
    ∙ same_at i a b c (from - start) (from - start - batch.rows) (to - start) batch (drop (i + 1) batches) e f g

-- the rows of a range are its first ones and then the others
cut_next : (i a b c : ℕ) (rows first : List Row) (rest : List (ℕ × Row)) → a ≤ b → b ≤ c → first ≡ rows_between a b rows →
    map (λ row. (i, row)) (rows_between a c rows) ++ rest
    ≡ map (λ row. (i, row)) first ++ (map (λ row. (i, row)) (rows_between b c rows) ++ rest)
cut_next i a b c rows first rest low high r =
    let with_number : Row → ℕ × Row = λ row. (i, row) in
    ap (λ (some : List Row). map with_number some ++ rest)
    (between_parts a b c rows low high ∙ ap (λ (one : List Row). one ++ rows_between b c rows) (sym r))
    ∙ ap (λ (some : List (ℕ × Row)). some ++ rest) (map-append with_number first (rows_between b c rows))
    ∙ append_assoc (map with_number first) (map with_number (rows_between b c rows)) rest

-- the first rows of what is left of a batch are next
pub rows_next : (from to start i : ℕ) (batches : List BatchAt) (batch : BatchAt) → slice_get batches i ≡ Some batch → i < length batches →
    start ≡ rows_before batches i → start ≤ from → from < start + batch.rows →
    (most last : ℕ) → last ≡ min (min batch.rows (to - start)) (from - start + most) → from < to →
    (rows : List Row) → rows ≡ rows_between (from - start) last (rows_of batch) →
    numbered_from 0 from to batches ≡ map (λ row. (i, row)) rows ++ numbered_from 0 (start + last) to batches
rows_next from to start i batches batch there within s low high most last l more rows r =
    let c = to - start in
    let rest = numbered_from (i + 1) 0 (c - batch.rows) (drop (i + 1) batches) in
    in_batch from to start i (from - start) 0 c batches batch there within s low refl (omega (arith, high)) refl
    ∙ cut_next i (from - start) last c (rows_of batch) rows rest (omega (arith, l, high, low, more)) (omega (arith, l)) r
    ∙ ap (λ (some : List (ℕ × Row)). map (λ row. (i, row)) rows ++ some)
    (sym (in_batch (start + last) to start i last 0 c batches batch there within s (omega arith) (omega arith) (omega (arith, l)) refl))
