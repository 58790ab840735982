-- Keys that are known by a number.
use Rattle.std.proofs.Common.{◌≡◌, ◌≢◌, ◌<◌, ℕ, Bool, true, false, List, [], ◌∷◌, length, map, get_or, slice_set, refl, sym, ap, ◌∙◌, subst, arith}
use Rattle.std.specs.Prelude.{◌==◌, ◌&&◌, not}
use Rattle.std.proofs.Common.{true≢false}
use Rattle.std.proofs.lemmas.Bool.{and_parts}
use borrow.Author.Tests.{eq-eqb, eqb-true}
use Rattle.std.specs.List.{list_any}
use Rattle.std.proofs.lemmas.List.{get_or_default}
use Rattle.std.proofs.lemmas.List.Elements.{All-set}
use Rattle.indexmap.specs.IndexSet.{insert_key}
use Rattle.scan_base.specs.declared.value.Value.{Value}
use Rattle.typed_plan.specs.GroupedRows.{same_key}
use Rattle.first_rows.specs.declared.key.RowKey.{RowKey}
use Rattle.grouping.specs.declared.known_keys.KnownKey.{KnownKey}
use Rattle.table_versions.specs.Table.{Row}
use Rattle.grouping.specs.FoundKeys.{found_then, key_in, place_in}
use Rattle.first_rows.specs.RowKeys.{key_of, same_first}
use Rattle.grouping.specs.inside.Knowing.{AreKnown, AreNothing, IsKnown, nothing}
use Rattle.grouping.proofs.Finding.{any_map, insert_map, more_there, place_inserted, place_new, place_stays}

-- a first row whose key was found opens no group
pub found_before : (firsts : List RowKey) (first : RowKey) → place_in (map key_of firsts) (key_of first) < length (map key_of firsts) →
    insert_key same_first firsts first ≡ firsts
found_before firsts first low = by (list_any (λ b. same_key (key_of first) (key_of b)) firsts) refl
  where
    by : (t : Bool) → list_any (λ b. same_key (key_of first) (key_of b)) firsts ≡ t → insert_key same_first firsts first ≡ firsts
    by true e = rw e refl
    by false e =
        let new = place_new (map key_of firsts) (key_of first) (any_map key_of (same_key (key_of first)) firsts ∙ e) in
        absurd (omega arith)

-- where nothing is said, all that is said is true
pub nothing_known : (meaning : ℕ → ℕ → Value) (found : List (List Value)) (count : ℕ) (entries : List KnownKey) → AreNothing count entries →
    AreKnown meaning found entries
nothing_known meaning found count entries nothings = λ k d low.
    let is : get_or entries k d ≡ nothing = get_or_default entries k d nothing low ∙ nothings.each k (omega (arith, low, nothings.long)) in
    let none : (get_or entries k d).kind ≡ 0 = ap (λ (entry : KnownKey). entry.kind) is in
    record { place = λ some. absurd (some none); there = λ some. absurd (some none) }

-- what is known stays so where a key is found
pub known_stays : (meaning : ℕ → ℕ → Value) (found : List (List Value)) (entries : List KnownKey) (key : List Value) →
    AreKnown meaning found entries → AreKnown meaning (insert_key same_key found key) entries
known_stays meaning found entries key known = λ k d low.
    let entry = get_or entries k d in
    let is = known k d low in
    let kept : entry.kind ≢ 0 → place_in (insert_key same_key found key) (meaning entry.kind entry.key ∷ []) ≡ place_in found (meaning entry.kind entry.key ∷ []) =
    λ some. place_stays found (meaning entry.kind entry.key ∷ []) key (omega (arith, is.place some, is.there some)) in
    record {
      place = λ some. is.place some ∙ sym (kept some);
      there = λ some. omega (arith, is.there some, more_there found key);
    }

-- one key more is known
pub known_more : (meaning : ℕ → ℕ → Value) (found : List (List Value)) (entries : List KnownKey) (key : List Value) (at : ℕ) (entry : KnownKey) →
    AreKnown meaning found entries → (entry.kind ≢ 0 → meaning entry.kind entry.key ∷ [] ≡ key) → entry.group ≡ place_in found key →
    AreKnown meaning (insert_key same_key found key) (slice_set entries at entry)
known_more meaning found entries key at entry known is group =
    let after = insert_key same_key found key in
    let inserted = place_inserted found key in
    All-set (IsKnown meaning after) entries at entry
    (record {
      place = λ some. group ∙ sym inserted.0 ∙ ap (place_in after) (sym (is some));
      there = λ some. omega (arith, group, inserted.1);
    })
    (known_stays meaning found entries key known)

-- what is known stays so where more keys are found
pub known_after : (meaning : ℕ → ℕ → Value) (keys : List ℕ) (found : List (List Value)) (rows : List Row) (entries : List KnownKey) →
    AreKnown meaning found entries → AreKnown meaning (found_then keys found rows) entries
known_after meaning keys found [] entries known = known
known_after meaning keys found (row ∷ rows) entries known =
    known_after meaning keys (insert_key same_key found (key_in keys row)) rows entries (known_stays meaning found entries (key_in keys row) known)

-- a first row that is inserted leaves what is known, with its own key
pub known_inserted : (meaning : ℕ → ℕ → Value) (firsts after : List RowKey) (first : RowKey) (entries : List KnownKey) (at : ℕ) (entry : KnownKey) (value : Value) →
    AreKnown meaning (map key_of firsts) entries → after ≡ insert_key same_first firsts first → key_of first ≡ value ∷ [] →
    (entry.kind ≢ 0 → meaning entry.kind entry.key ≡ value) → entry.group ≡ place_in (map key_of firsts) (key_of first) →
    AreKnown meaning (map key_of after) (slice_set entries at entry)
known_inserted meaning firsts after first entries at entry value known inserted is says group =
    subst (λ (found : List (List Value)). AreKnown meaning found (slice_set entries at entry)) (sym (ap (map key_of) inserted ∙ insert_map first firsts))
    (known_more meaning (map key_of firsts) entries (key_of first) at entry known (λ some. ap (λ (v : Value). v ∷ []) (says some) ∙ sym is) group)

-- a row whose key stands in an entry opens no group
pub known_hit : (meaning : ℕ → ℕ → Value) (firsts : List RowKey) (first : RowKey) (entries : List KnownKey) (at : ℕ) (d : KnownKey) (kind key : ℕ) (value : Value) →
    AreKnown meaning (map key_of firsts) entries → at < length entries → key_of first ≡ value ∷ [] →
    (kind ≢ 0 → meaning kind key ≡ value) →
    (not (kind == 0) && (((get_or entries at d).kind == kind) && ((get_or entries at d).key == key))) ≡ true →
    firsts ≡ insert_key same_first firsts first
known_hit meaning firsts first entries at d kind key value known there is says same =
    let entry = get_or entries at d in
    let parts = and_parts (not (kind == 0)) ((entry.kind == kind) && (entry.key == key)) same in
    let rest = and_parts (entry.kind == kind) (entry.key == key) parts.1 in
    let same_kind : entry.kind ≡ kind = eqb-true _ _ rest.0 in
    let same_key : entry.key ≡ key = eqb-true _ _ rest.1 in
    let some : kind ≢ 0 = λ (none : kind ≡ 0). true≢false (sym parts.0 ∙ ap not (eq-eqb kind 0 none)) in
    let of_it : meaning entry.kind entry.key ∷ [] ≡ key_of first =
    ap (λ (k : ℕ). meaning k entry.key ∷ []) same_kind ∙ ap (λ (k : ℕ). meaning kind k ∷ []) same_key ∙ ap (λ (v : Value). v ∷ []) (says some) ∙ sym is in
    let its : entry.kind ≢ 0 = λ (none : entry.kind ≡ 0). some (sym same_kind ∙ none) in
    let now = known at d there in
    let place : place_in (map key_of firsts) (key_of first) ≡ entry.group = ap (place_in (map key_of firsts)) (sym of_it) ∙ sym (now.place its) in
    sym (found_before firsts first (omega (arith, place, now.there its)))

-- and it has the entry's group
pub known_place : (meaning : ℕ → ℕ → Value) (firsts : List RowKey) (first : RowKey) (entries : List KnownKey) (at : ℕ) (d : KnownKey) (kind key : ℕ) (value : Value) →
    AreKnown meaning (map key_of firsts) entries → at < length entries → key_of first ≡ value ∷ [] →
    (kind ≢ 0 → meaning kind key ≡ value) →
    (not (kind == 0) && (((get_or entries at d).kind == kind) && ((get_or entries at d).key == key))) ≡ true →
    (get_or entries at d).group ≡ place_in (map key_of firsts) (key_of first)
known_place meaning firsts first entries at d kind key value known there is says same =
    let entry = get_or entries at d in
    let parts = and_parts (not (kind == 0)) ((entry.kind == kind) && (entry.key == key)) same in
    let rest = and_parts (entry.kind == kind) (entry.key == key) parts.1 in
    let same_kind : entry.kind ≡ kind = eqb-true _ _ rest.0 in
    let same_key : entry.key ≡ key = eqb-true _ _ rest.1 in
    let some : kind ≢ 0 = λ (none : kind ≡ 0). true≢false (sym parts.0 ∙ ap not (eq-eqb kind 0 none)) in
    let of_it : meaning entry.kind entry.key ∷ [] ≡ key_of first =
    ap (λ (k : ℕ). meaning k entry.key ∷ []) same_kind ∙ ap (λ (k : ℕ). meaning kind k ∷ []) same_key ∙ ap (λ (v : Value). v ∷ []) (says some) ∙ sym is in
    let its : entry.kind ≢ 0 = λ (none : entry.kind ≡ 0). some (sym same_kind ∙ none) in
    (known at d there).place its ∙ ap (place_in (map key_of firsts)) of_it

pub known_found : (meaning : ℕ → ℕ → Value) (keys : List ℕ) (before after : List (List Value)) (rows : List Row) (entries : List KnownKey) →
    after ≡ found_then keys before rows → AreKnown meaning before entries → AreKnown meaning after entries
known_found meaning keys before after rows entries is known =
    subst (λ (found : List (List Value)). AreKnown meaning found entries) (sym is) (known_after meaning keys before rows entries known)
