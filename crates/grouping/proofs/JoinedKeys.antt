-- Keys of other rows that are found after those of rows.
use Rattle.std.proofs.Common.{◌≡◌, ◌≤◌, ◌<◌, ℕ, zero, suc, ◌+◌, Bool, true, false, List, [], ◌∷◌, ◌++◌, All, length, map, get_or, take, refl, sym, ap, ◌∙◌, subst, arith, below_more}
use Rattle.std.specs.Prelude.{nat_eq}
use Rattle.std.specs.List.{list_any}
use borrow.Author.Tests.{ne_eqb}
use Rattle.std.proofs.lemmas.List.{get_or-map, get_or_append_left, get_or_default, get_or_push, length-append, length-map, take_all, take_more}
use Rattle.std.proofs.lemmas.List.Sums.{fold-append}
use Rattle.indexmap.specs.IndexSet.{insert_all, insert_key}
use Rattle.scan_base.specs.declared.value.Value.{Value}
use Rattle.table_versions.specs.Table.{Row}
use Rattle.std.specs.Prelude.{Option}
use Rattle.arrays.specs.Batch.{BatchAt}
use Rattle.coded_keys.specs.declared.numbers.SeenNumber.{SeenNumber}
use Rattle.coded_keys.specs.Numbers.{AreNumbers}
use Rattle.grouping.specs.FedRows.{batch_at}
use Rattle.typed_plan.specs.GroupedRows.{same_key}
use Rattle.first_rows.specs.declared.key.RowKey.{RowKey}
use Rattle.grouping.specs.FoundKeys.{key_in, place_in, found_in, found_then, first_found}
use Rattle.first_rows.proofs.Keys.{key_sound}
use Rattle.first_rows.specs.RowKeys.{key_of, same_first}
use Rattle.grouping.specs.inside.Merging.{AreJoined, FirstsJoin}
use Rattle.grouping.specs.inside.Placing.{IsFirst, found_by}
use Rattle.grouping.proofs.Finding.{all_inserted, insert_map, more_there, place_inserted, place_new, place_stays, place_there}
use Rattle.grouping.proofs.Held.{alone_in}

-- ---- keys that are found

-- a key that is there changes nothing
inserted_again : (found : List (List Value)) (key : List Value) → place_in found key < length found → insert_key same_key found key ≡ found
inserted_again found key low = by (list_any (same_key key) found) refl
  where
    by : (t : Bool) → list_any (same_key key) found ≡ t → insert_key same_key found key ≡ found
    by true e = rw e refl
    by false e = let last = place_new found key e in absurd (omega (arith, last, low))

-- what stands at the place of a key is the key
pub place_key : (found : List (List Value)) (key : List Value) → place_in found key < length found → get_or found (place_in found key) [] ≡ key
place_key [] key low = absurd (omega arith)
place_key (k ∷ found) key low = by (λ below. place_key found key below) (same_key key k) refl
  where
    by : (place_in found key < length found → get_or found (place_in found key) [] ≡ key) → (t : Bool) → same_key key k ≡ t →
        get_or (k ∷ found) (place_in (k ∷ found) key) [] ≡ key
    by again true e = rw e (sym (key_sound key k e))
    by again false e =
        let below = rw e at low in
        let moved : 1 + place_in found key ≡ suc (place_in found key) = omega arith in
        rw e (ap (λ place. get_or (k ∷ found) place []) moved ∙ again (omega (arith, below)))

-- keys that were found stay, where they are
pub keys_grow : (found keys : List (List Value)) → length found ≤ length (insert_all same_key found keys)
keys_grow found [] = omega arith
keys_grow found (key ∷ keys) = omega (arith, more_there found key, keys_grow (insert_key same_key found key) keys)

keys_stay : (found keys : List (List Value)) (key : List Value) → place_in found key < length found →
    place_in (insert_all same_key found keys) key ≡ place_in found key
keys_stay found [] key low = refl
keys_stay found (more ∷ keys) key low =
    let stays = place_stays found key more low in
    keys_stay (insert_key same_key found more) keys key (omega (arith, stays, more_there found more)) ∙ stays

-- and each that is inserted is found
keys_found : (found keys : List (List Value)) (k : ℕ) (d : List Value) → k < length keys →
    place_in (insert_all same_key found keys) (get_or keys k d) < length (insert_all same_key found keys)
keys_found found [] k d low = absurd (omega arith)
keys_found found (key ∷ keys) zero d low =
    let after = insert_key same_key found key in
    let inserted = place_inserted found key in
    let here : place_in after key < length after = omega (arith, inserted.0, inserted.1) in
    omega (arith, keys_stay after keys key here, here, keys_grow after keys)
keys_found found (key ∷ keys) (suc k) d low = keys_found (insert_key same_key found key) keys k d (omega arith)

insert_through : (a b : List (List Value)) (x : List Value) → insert_all same_key a (insert_key same_key b x) ≡ insert_key same_key (insert_all same_key a b) x
insert_through a b x = by (list_any (same_key x) b) refl
  where
    by : (t : Bool) → list_any (same_key x) b ≡ t → insert_all same_key a (insert_key same_key b x) ≡ insert_key same_key (insert_all same_key a b) x
    by true e =
        let low = place_there b x e in
        let there : place_in (insert_all same_key a b) x < length (insert_all same_key a b) =
        subst (λ (key : List Value). place_in (insert_all same_key a b) key < length (insert_all same_key a b)) (place_key b x low) (keys_found a b (place_in b x) [] low) in
        rw e (sym (inserted_again (insert_all same_key a b) x there))
    by false e = rw e (fold-append (insert_key same_key) a b (x ∷ []))

-- keys after keys that were found of others
all_through : (a b xs : List (List Value)) → insert_all same_key a (insert_all same_key b xs) ≡ insert_all same_key (insert_all same_key a b) xs
all_through a b [] = refl
all_through a b (x ∷ xs) =
    all_through a (insert_key same_key b x) xs ∙ ap (λ (found : List (List Value)). insert_all same_key found xs) (insert_through a b x)

first_again : (keys : List ℕ) (rows : List Row) → insert_all same_key (found_in keys rows) (first_found keys) ≡ found_in keys rows
first_again [] rows = subst (λ (found : List (List Value)). insert_all same_key found ([] ∷ []) ≡ found) (alone_in rows) refl
first_again (key ∷ keys) rows = refl

-- the keys of rows, and then those of others, are the keys of all rows
pub joined_then : (keys : List ℕ) (rows more : List Row) →
    insert_all same_key (found_in keys rows) (found_in keys more) ≡ found_then keys (found_in keys rows) more
joined_then keys rows more =
    all_through (found_in keys rows) (first_found keys) (map (key_in keys) more)
    ∙ ap (λ (found : List (List Value)). insert_all same_key found (map (key_in keys) more)) (first_again keys rows)

-- ---- the loop over other first rows

-- the places of other keys, and then of one more
more_joined : (found others : List (List Value)) (groups : List ℕ) (count : ℕ) (key : List Value) → key ≡ get_or others count [] →
    AreJoined found others groups count → AreJoined (insert_key same_key found key) others (groups ++ place_in found key ∷ []) (count + 1)
more_joined found others groups count key is so =
    let new = groups ++ place_in found key ∷ [] in
    let after = insert_key same_key found key in
    let last : get_or new count 0 ≡ place_in found key = get_or_push groups (place_in found key) 0 count so.long in
    let inserted = place_inserted found key in
    let early : (k : ℕ) → k < count → get_or new k 0 ≡ get_or groups k 0 =
    λ k low. get_or_append_left groups (place_in found key ∷ []) 0 k (omega (arith, so.long)) in
    record {
      long = length-append groups (place_in found key ∷ []) ∙ ap (λ n. n + 1) so.long;
      each = below_more (λ k. get_or new k 0 ≡ place_in after (get_or others k [])) count
          (λ k low. early k low ∙ so.each k low
          ∙ sym (place_stays found (get_or others k []) key (omega (arith, so.each k low, so.there k low))))
          (last ∙ sym inserted.0 ∙ ap (place_in after) is);
      there = below_more (λ k. get_or new k 0 < length after) count
          (λ k low. omega (arith, early k low, so.there k low, more_there found key))
          (omega (arith, last, inserted.1));
    }

-- the invariant of the loop over other first rows
pub record IsJoining (before others : List RowKey) (count : ℕ) (firsts : List RowKey) (groups : List ℕ) : Type 0 where
  pub found : map key_of firsts ≡ insert_all same_key (map key_of before) (take count (map key_of others))
  pub joined : AreJoined (map key_of firsts) (map key_of others) groups count
  pub kept : FirstsJoin before others firsts

-- one first row more
pub step : (before others : List RowKey) (count : ℕ) (firsts : List RowKey) (groups : List ℕ) (first : RowKey) → IsJoining before others count firsts groups →
    count < length others → first ≡ get_or others count first →
    IsJoining before others (count + 1) (insert_key same_first firsts first) (groups ++ place_in (map key_of firsts) (key_of first) ∷ [])
step before others count firsts groups first so more is =
    let here : key_of first ≡ get_or (map key_of others) count [] = ap key_of is ∙ sym (get_or-map key_of others count first [] more) in
    let low : count < length (map key_of others) = omega (arith, more, length-map others key_of) in
    record {
      found = insert_map first firsts ∙ ap (insert_key same_key (map key_of firsts)) here
          ∙ ap (λ (found : List (List Value)). insert_key same_key found (get_or (map key_of others) count [])) so.found
          ∙ sym (ap (insert_all same_key (map key_of before)) (take_more (map key_of others) count [] low)
          ∙ fold-append (insert_key same_key) (map key_of before) (take count (map key_of others)) (get_or (map key_of others) count [] ∷ []));
      joined = subst (λ (found : List (List Value)). AreJoined found (map key_of others) (groups ++ place_in (map key_of firsts) (key_of first) ∷ []) (count + 1))
          (sym (insert_map first firsts)) (more_joined (map key_of firsts) (map key_of others) groups count (key_of first) here so.joined);
      kept = λ batches keys all both.
          all_inserted (IsFirst batches keys) firsts first (so.kept batches keys all both) (subst (IsFirst batches keys) (sym is) (both count first more));
    }

-- all first rows are joined
pub done : (before others : List RowKey) (count : ℕ) (firsts : List RowKey) (groups : List ℕ) → IsJoining before others count firsts groups → length others ≤ count →
    count ≤ length others → (map key_of firsts ≡ insert_all same_key (map key_of before) (map key_of others))
    × AreJoined (map key_of firsts) (map key_of others) groups (length (map key_of others))
done before others count firsts groups so all within =
    let long = length-map others key_of in
    let same : count ≡ length (map key_of others) = omega (arith, long, all, within) in (
      so.found ∙ ap (insert_all same_key (map key_of before)) (take_all count (map key_of others) (omega (arith, long, all))),
      subst (AreJoined (map key_of firsts) (map key_of others) groups) same so.joined,
    )

-- each of them is there
pub all_there : (found others : List (List Value)) (groups : List ℕ) → AreJoined found others groups (length others) → All (λ group. group < length found) groups
all_there found others groups are k d low =
    let here = are.there k (omega (arith, low, are.long)) in
    omega (arith, here, get_or_default groups k d 0 low)

-- ---- without columns

one_place : (k : ℕ) → k < 1 → get_or (0 ∷ []) k 0 ≡ place_in ([] ∷ []) (get_or ([] ∷ []) k [])
one_place zero low = refl
one_place (suc k) low = absurd (omega arith)

one_there : (k : ℕ) → k < 1 → get_or (0 ∷ []) k 0 < 1
one_there zero low = omega arith
one_there (suc k) low = absurd (omega arith)

-- the one group joins the one group
pub alone_joined : (columns : List ℕ) (firsts others : List RowKey) → nat_eq (length columns) 0 ≡ true →
    (found_by columns firsts ≡ insert_all same_key (found_by columns firsts) (found_by columns others))
    × AreJoined (found_by columns firsts) (found_by columns others) (0 ∷ []) (length (found_by columns others))
alone_joined [] firsts others empty = (refl, record { long = refl; each = one_place; there = one_there })
alone_joined (column ∷ columns) firsts others empty =
    let no_key : nat_eq (length (column ∷ columns)) 0 ≡ false = ne_eqb _ _ (λ (h : length (column ∷ columns) ≡ 0). omega arith) in cc

-- ---- numbers of texts that were seen

-- what was seen in the batch of a first row
pub seen_of : (numbers : Value → Option ℕ) (batches : List BatchAt) (keys : List ℕ) (first : RowKey) (places : List (Option SeenNumber)) → IsFirst batches keys first →
    AreNumbers numbers (batch_at batches first.number) keys places → AreNumbers numbers first.batch.now first.columns.now places
seen_of numbers batches keys first places at seen =
    subst (λ (columns : List ℕ). AreNumbers numbers first.batch.now columns places) (sym at.keyed)
    (subst (λ (batch : BatchAt). AreNumbers numbers batch keys places) (sym at.stands.same) seen)

pub seen_in : (numbers : Value → Option ℕ) (batches : List BatchAt) (keys : List ℕ) (first : RowKey) (places : List (Option SeenNumber)) → IsFirst batches keys first →
    AreNumbers numbers first.batch.now first.columns.now places → AreNumbers numbers (batch_at batches first.number) keys places
seen_in numbers batches keys first places at seen =
    subst (λ (batch : BatchAt). AreNumbers numbers batch keys places) at.stands.same
    (subst (λ (columns : List ℕ). AreNumbers numbers first.batch.now columns places) at.keyed seen)
