-- Slots that are coded one by one.
use Rattle.std.proofs.Common.{◌≡◌, ◌≤◌, ◌<◌, ℕ, zero, suc, ◌+◌, ◌-◌, ◌*◌, ◌/◌, List, [], ◌∷◌, length, map, set, take, All, sym, ap, subst, ◌∙◌, arith}
use Rattle.std.specs.List.{range_with_len}
use Rattle.std.proofs.lemmas.List.{take_all, take_more_set, take-set-le}
use Rattle.std.proofs.lemmas.List.FromFn.{length-map-range_with_len, get_or-map-range_with_len, map-range_with_len_more}
use Rattle.scan_base.specs.declared.value.Value.{Value}
use Rattle.scan_base.specs.declared.value.Value.TheVariants.{Null}
use Rattle.dictionary_answers.specs.Firsts.{firsts, firsts_behind, bytes_in}
use Rattle.dictionary_answers.specs.inside.CodedTexts.{CodedTextsAt, AreCoded, DistinctTextsAt, coded_texts_at}
use Rattle.arrays.specs.Column.{ColumnAt, slot_of}
use Rattle.dictionary_answers.specs.inside.Blocks.{AreCodedTo}
use Rattle.dictionary_answers.specs.inside.Coding.{Finds, room_of}
use Rattle.dictionary_answers.specs.inside.PackedPlaces.{numbers_in}
use Rattle.dictionary_answers.proofs.Numbers.{length-numbers}
use Rattle.dictionary_answers.proofs.Places.{coded_more, firsts_more, few_behind, bytes_behind}

-- one slot more
pub slot_more : (f : ℕ → Value) (n room : ℕ) (old new : DistinctTextsAt) (packed after : List ℕ) (place : ℕ) → n < length packed / 4 → numbers_in after ≡ set (numbers_in packed) n place →
    AreCoded (map f (range_with_len 0 n)) room (coded_texts_at old (take n (numbers_in packed))) → Finds old new place (f n) →
    AreCoded (map f (range_with_len 0 (n + 1))) room (coded_texts_at new (take (n + 1) (numbers_in after)))
slot_more f n room old new packed after place low is are finds =
    rw (is, map-range_with_len_more f 0 n n (omega arith), take_more_set (numbers_in packed) n place (omega (arith, length-numbers packed, low)))
    (coded_more (map f (range_with_len 0 n)) room old new (take n (numbers_in packed)) place (f n) are finds)

-- all slots
pub slots_all : (f : ℕ → Value) (n count room : ℕ) (found : DistinctTextsAt) (packed : List ℕ) → length packed ≡ 4 * count → count ≤ n → n ≤ count →
    AreCoded (map f (range_with_len 0 n)) room (coded_texts_at found (take n (numbers_in packed))) → AreCoded (map f (range_with_len 0 count)) room (coded_texts_at found (numbers_in packed))
slots_all f n count room found packed long high low are =
    let e : n ≡ count = omega (arith, high, low) in
    let all : take n (numbers_in packed) ≡ numbers_in packed = take_all n (numbers_in packed) (omega (arith, length-numbers packed, long, high)) in
    subst (λ (ps : List ℕ). AreCoded (map f (range_with_len 0 count)) room (coded_texts_at found ps)) all
    (subst (λ (m : ℕ). AreCoded (map f (range_with_len 0 m)) room (coded_texts_at found (take n (numbers_in packed)))) e are)

-- there are no more texts than slots
pub few_texts : (f : ℕ → Value) (n room : ℕ) (coded : CodedTextsAt) → AreCoded (map f (range_with_len 0 n)) room coded → length coded.texts ≤ n
few_texts f n room coded are =
    omega (arith, ap length are.texts, few_behind (map f (range_with_len 0 n)) [], length-map-range_with_len f 0 n)

-- more slots have no fewer bytes
bytes_rise : (f : ℕ → Value) (n more : ℕ) → bytes_in (firsts (map f (range_with_len 0 n))) ≤ bytes_in (firsts (map f (range_with_len 0 (n + more))))
bytes_rise f n zero = let e : n + 0 ≡ n = omega arith in rw e (omega arith)
bytes_rise f n (suc more) =
    let e : n + suc more ≡ (n + more) + 1 = omega arith in
    let so_far = bytes_rise f n more in
    let one = bytes_behind (f (n + more) ∷ []) (firsts (map f (range_with_len 0 (n + more)))) in
    rw (e, map-range_with_len_more f 0 (n + more) (n + more) (omega arith), firsts_more (map f (range_with_len 0 (n + more))) (f (n + more))) (omega (arith, so_far, one))

-- where the texts of some slots have no room, those of all have none
pub none_fit : (f : ℕ → Value) (n count room : ℕ) (coded : CodedTextsAt) → AreCoded (map f (range_with_len 0 n)) room coded → n < count →
    bytes_in coded.texts + coded.left < bytes_in (firsts_behind coded.texts (f n ∷ [])) → room < bytes_in (firsts (map f (range_with_len 0 count)))
none_fit f n count room coded are low full =
    let more : ℕ = count - (n + 1) in
    let e : count ≡ (n + 1) + more = omega arith in
    let is : firsts (map f (range_with_len 0 (n + 1))) ≡ firsts_behind coded.texts (f n ∷ []) =
    ap firsts (map-range_with_len_more f 0 n n (omega arith)) ∙ firsts_more (map f (range_with_len 0 n)) (f n)
    ∙ ap (λ (t : List (List ℕ)). firsts_behind t (f n ∷ [])) (sym are.texts) in
    rw e (omega (arith, bytes_rise f (n + 1) more, ap bytes_in is, are.bytes, full))

-- what holds of each value holds of a slot
pub slot_is : (P : Value → Type 0) (f : ℕ → Value) (count place : ℕ) → All P (map f (range_with_len 0 count)) → place < count → P (f place)
slot_is P f count place all low =
    subst P (get_or-map-range_with_len f 0 count place place Null low (omega arith)) (all place Null (omega (arith, length-map-range_with_len f 0 count)))

-- one slot more of a column
pub coded_on : (column : ColumnAt) (n : ℕ) (old new : DistinctTextsAt) (packed after : List ℕ) (place : ℕ) → n < length packed / 4 → numbers_in after ≡ set (numbers_in packed) n place →
    AreCodedTo column n old packed → Finds old new place (slot_of column n) → AreCodedTo column (n + 1) new after
coded_on column n old new packed after place low is are finds =
    subst (λ (room : ℕ). AreCoded (map (slot_of column) (range_with_len 0 (n + 1))) room (coded_texts_at new (take (n + 1) (numbers_in after)))) (sym finds.bytes)
    (slot_more (slot_of column) n (room_of old) old new packed after place low is are finds)

-- slots stay coded where a number is put after them
pub coded_still : (column : ColumnAt) (n at place : ℕ) (found : DistinctTextsAt) (packed after : List ℕ) → n ≤ at → numbers_in after ≡ set (numbers_in packed) at place →
    AreCodedTo column n found packed → AreCodedTo column n found after
coded_still column n at place found packed after high is are =
    subst (λ (places : List ℕ). AreCoded (map (slot_of column) (range_with_len 0 n)) (room_of found) (coded_texts_at found places))
    (sym (ap (take n) is ∙ take-set-le n (numbers_in packed) at place high)) are
