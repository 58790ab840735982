-- Groups of rows, as the rows go by.
use Rattle.std.proofs.Common.{◌≡◌, ◌≤◌, ◌<◌, ℕ, ◌+◌, Bool, true, false, cond, not, ◌||◌, List, [], ◌∷◌, ◌++◌, length, map, get_or, take, refl, sym, ap, ◌∙◌, subst, arith, All, below_more}
use Rattle.std.specs.Prelude.{nat_eq}
use Rattle.std.proofs.lemmas.List.{map-append, length-append, map_more, get_or_push, get_or_append_left}
use Rattle.std.proofs.lemmas.List.Folds.{position_or_len_push}
use Rattle.std.proofs.lemmas.List.Elements.{All-push}
use borrow.Author.Tests.{eq-eqb, ne_eqb}
use Rattle.std.specs.List.{list_any, position_or_len}
use Rattle.indexmap.specs.IndexSet.{insert_key}
use Rattle.scan_base.specs.declared.value.Value.{Value}
use Rattle.arrays.specs.Batch.{row_of}
use Rattle.arrays.specs.Column.{ColumnAt}
use Rattle.table_versions.specs.Table.{Row}
use Rattle.typed_plan.specs.GroupedRows.{same_key}
use Rattle.first_rows.specs.declared.key.RowKey.{RowKey}
use Rattle.grouping.specs.declared.table.ChosenRows.{ChosenRows}
use Rattle.grouping.specs.FedRows.{batch_at}
use Rattle.grouping.specs.FoundKeys.{key_in, place_in, found_then}
use Rattle.first_rows.proofs.Keys.{key_self}
use Rattle.grouping.specs.inside.Placing.{ArePlaced, IsFinding, IsFirst, found_by}
use Rattle.first_rows.specs.RowKeys.{key_of, same_first}

pub any_map : {A B : Type 0} (f : A → B) (p : B → Bool) (xs : List A) → list_any p (map f xs) ≡ list_any (λ x. p (f x)) xs
any_map f p [] = refl
any_map f p (x ∷ xs) = ap (λ t. p (f x) || t) (any_map f p xs)

pub position_map : {A B : Type 0} (f : A → B) (p : B → Bool) (xs : List A) → position_or_len p (map f xs) ≡ position_or_len (λ x. p (f x)) xs
position_map f p [] = refl
position_map f p (x ∷ xs) = ap (λ n. cond (not (p (f x))) (1 + n) 0) (position_map f p xs)

-- a first row that is inserted inserts its key
pub insert_map : (first : RowKey) (firsts : List RowKey) →
    map key_of (insert_key same_first firsts first) ≡ insert_key same_key (map key_of firsts) (key_of first)
insert_map first firsts = by (list_any (λ b. same_key (key_of first) (key_of b)) firsts) refl
  where
    by : (t : Bool) → list_any (λ b. same_key (key_of first) (key_of b)) firsts ≡ t →
        map key_of (insert_key same_first firsts first) ≡ insert_key same_key (map key_of firsts) (key_of first)
    by true e = rw (any_map key_of (same_key (key_of first)) firsts, e) refl
    by false e = rw (any_map key_of (same_key (key_of first)) firsts, e) (map-append key_of firsts (first ∷ []))

-- where a key stands that was found, and one that was not
pub place_there : (found : List (List Value)) (key : List Value) → list_any (same_key key) found ≡ true → place_in found key < length found
place_there [] key there = cc
place_there (k ∷ found) key there = by (λ h. place_there found key h) (same_key key k) refl
  where
    by : (list_any (same_key key) found ≡ true → place_in found key < length found) →
        (t : Bool) → same_key key k ≡ t → place_in (k ∷ found) key < length (k ∷ found)
    by again true e = rw e (omega arith)
    by again false e = let later = again (rw e at there) in rw e (omega arith)

pub place_new : (found : List (List Value)) (key : List Value) → list_any (same_key key) found ≡ false → place_in found key ≡ length found
place_new [] key absent = refl
place_new (k ∷ found) key absent = by (λ h. place_new found key h) (same_key key k) refl
  where
    by : (list_any (same_key key) found ≡ false → place_in found key ≡ length found) →
        (t : Bool) → same_key key k ≡ t → place_in (k ∷ found) key ≡ length (k ∷ found)
    by again true e = let bad : true ≡ false = rw e at absent in cc
    by again false e = let later = again (rw e at absent) in rw e (omega arith)

-- a key that was found keeps its place
pub place_stays : (found : List (List Value)) (key more : List Value) → place_in found key < length found →
    place_in (insert_key same_key found more) key ≡ place_in found key
place_stays found key more low = by (list_any (same_key more) found) refl
  where
    by : (t : Bool) → list_any (same_key more) found ≡ t → place_in (insert_key same_key found more) key ≡ place_in found key
    by true e = rw e refl
    by false e =
        let apart : nat_eq (place_in found key) (length found) ≡ false = ne_eqb _ _ (λ (h : place_in found key ≡ length found). omega arith) in
        rw e (position_or_len_push (same_key key) found more ∙ rw apart refl)

-- what is inserted stands at its place
pub place_inserted : (found : List (List Value)) (key : List Value) →
    (place_in (insert_key same_key found key) key ≡ place_in found key) × (place_in found key < length (insert_key same_key found key))
place_inserted found key = by (list_any (same_key key) found) refl
  where
    by : (t : Bool) → list_any (same_key key) found ≡ t →
        (place_in (insert_key same_key found key) key ≡ place_in found key) × (place_in found key < length (insert_key same_key found key))
    by true e = rw e (refl, place_there found key e)
    by false e =
        let last = place_new found key e in
        let same : nat_eq (place_in found key) (length found) ≡ true = eq-eqb _ _ last in
        rw e (position_or_len_push (same_key key) found key ∙ rw (same, key_self key) (omega arith), simp length-append (omega arith))

pub more_there : (found : List (List Value)) (key : List Value) → length found ≤ length (insert_key same_key found key)
more_there found key = by (list_any (same_key key) found) refl
  where
    by : (t : Bool) → list_any (same_key key) found ≡ t → length found ≤ length (insert_key same_key found key)
    by true e = rw e (omega arith)
    by false e = rw e (simp length-append (omega arith))

-- what holds of the first rows, and of one more, holds of all
pub all_inserted : (P : RowKey → Type 0) (firsts : List RowKey) (first : RowKey) → All P firsts → P first → All P (insert_key same_first firsts first)
all_inserted P firsts first all one = by (list_any (same_first first) firsts) refl
  where
    by : (t : Bool) → list_any (same_first first) firsts ≡ t → All P (insert_key same_first firsts first)
    by true e = rw e all
    by false e = rw e (All-push P firsts first all one)

-- the keys after some rows, and then after more
pub found_more : (keys : List ℕ) (found : List (List Value)) (xs ys : List Row) →
    found_then keys found (xs ++ ys) ≡ found_then keys (found_then keys found xs) ys
found_more keys found [] ys = refl
found_more keys found (x ∷ xs) ys = found_more keys (insert_key same_key found (key_in keys x)) xs ys

-- the places of rows, and then of one more
more_placed : (keys : List ℕ) (columns : List ColumnAt) (found : List (List Value)) (rows groups : List ℕ) (count : ℕ) (key : List Value) →
    key ≡ key_in keys (row_of columns (get_or rows count 0)) → ArePlaced keys columns found rows groups count →
    ArePlaced keys columns (insert_key same_key found key) rows (groups ++ place_in found key ∷ []) (count + 1)
more_placed keys columns found rows groups count key is so =
    let new = groups ++ place_in found key ∷ [] in
    let after = insert_key same_key found key in
    let last : get_or new count 0 ≡ place_in found key = get_or_push groups (place_in found key) 0 count so.long in
    let inserted = place_inserted found key in
    let early : (k : ℕ) → k < count → get_or new k 0 ≡ get_or groups k 0 =
    λ k low. get_or_append_left groups (place_in found key ∷ []) 0 k (omega (arith, so.long)) in
    record {
      long = length-append groups (place_in found key ∷ []) ∙ ap (λ n. n + 1) so.long;
      each = below_more (λ k. get_or new k 0 ≡ place_in after (key_in keys (row_of columns (get_or rows k 0)))) count
          (λ k low. early k low ∙ so.each k low
          ∙ sym (place_stays found (key_in keys (row_of columns (get_or rows k 0))) key (omega (arith, so.each k low, so.there k low))))
          (last ∙ sym inserted.0 ∙ ap (place_in after) is);
      there = below_more (λ k. get_or new k 0 < length after) count
          (λ k low. omega (arith, early k low, so.there k low, more_there found key))
          (omega (arith, last, inserted.1));
    }

-- one row more
pub step : (chosen : ChosenRows) (before : List RowKey) (count : ℕ) (firsts : List RowKey) (groups : List ℕ) (first : RowKey) →
    IsFinding chosen before count firsts groups → count < length chosen.rows.now → first.columns.now ≡ chosen.columns.now →
    first.batch.now ≡ chosen.batch.now → first.number ≡ chosen.number → first.row ≡ get_or chosen.rows.now count 0 →
    IsFinding chosen before (count + 1) (insert_key same_first firsts first) (groups ++ place_in (map key_of firsts) (key_of first) ∷ [])
step chosen before count firsts groups first so more same_keys same_batch same_number same_row =
    let keys = chosen.columns.now in
    let columns = chosen.batch.now.columns in
    let rows = chosen.rows.now in
    let row = row_of columns (get_or rows count 0) in
    let is : key_of first ≡ key_in keys row = rw (same_keys, same_batch, same_row) refl in
    let grown : map (row_of columns) (take (count + 1) rows) ≡ map (row_of columns) (take count rows) ++ row ∷ [] =
    map_more (row_of columns) rows count 0 more in
    record {
      found = insert_map first firsts ∙ ap (insert_key same_key (map key_of firsts)) is
          ∙ ap (λ found. insert_key same_key found (key_in keys row)) so.found
          ∙ sym (ap (found_then keys (map key_of before)) grown
          ∙ found_more keys (map key_of before) (map (row_of columns) (take count rows)) (row ∷ []));
      placed = subst (λ found. ArePlaced keys columns found rows (groups ++ place_in (map key_of firsts) (key_of first) ∷ []) (count + 1))
          (sym (insert_map first firsts)) (more_placed keys columns (map key_of firsts) rows groups count (key_of first) is so.placed);
      kept = λ batches at all. all_inserted (IsFirst batches keys) firsts first (so.kept batches at all)
          (record {
            stands = record { there = omega (arith, at.there, same_number); same = same_batch ∙ at.same ∙ ap (batch_at batches) (sym same_number) };
            keyed = same_keys;
          });
    }

-- without columns the one key stays
pub found_alone : (keys : List ℕ) (firsts : List RowKey) (rows : List Row) → nat_eq (length keys) 0 ≡ true →
    found_by keys firsts ≡ found_then keys (found_by keys firsts) rows
found_alone [] firsts rows empty = one rows
  where
    one : (rows : List Row) → ([] ∷ []) ≡ found_then [] ([] ∷ []) rows
    one [] = refl
    one (row ∷ rows) = one rows
found_alone (key ∷ keys) firsts rows empty = let no_key : nat_eq (length (key ∷ keys)) 0 ≡ false = ne_eqb _ _ (λ (h : length (key ∷ keys) ≡ 0). omega arith) in cc

-- the same, by what stands then
pub step_more : (chosen : ChosenRows) (before firsts then : List RowKey) (groups after : List ℕ) (group : ℕ) (first : RowKey) →
    IsFinding chosen before (length groups) firsts groups → length groups < length chosen.rows.now → first.columns.now ≡ chosen.columns.now →
    first.batch.now ≡ chosen.batch.now → first.number ≡ chosen.number → first.row ≡ get_or chosen.rows.now (length groups) 0 →
    then ≡ insert_key same_first firsts first → group ≡ place_in (map key_of firsts) (key_of first) → after ≡ groups ++ group ∷ [] →
    IsFinding chosen before (length after) then after
step_more chosen before firsts then groups after group first so more same_keys same_batch same_number same_row inserted is grown =
    let count = length groups in
    let long : length after ≡ count + 1 = ap length grown ∙ length-append groups (group ∷ []) in
    let next = step chosen before count firsts groups first so more same_keys same_batch same_number same_row in
    subst (λ (n : ℕ). IsFinding chosen before n then after) (sym long)
    (subst (λ (all : List ℕ). IsFinding chosen before (count + 1) then all) (ap (λ (g : ℕ). groups ++ g ∷ []) (sym is) ∙ sym grown)
    (subst (λ (all : List RowKey). IsFinding chosen before (count + 1) all (groups ++ place_in (map key_of firsts) (key_of first) ∷ [])) (sym inserted) next))
