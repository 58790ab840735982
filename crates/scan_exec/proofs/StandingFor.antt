-- Items that differ, and what groups answer of others by them.
use Rattle.std.proofs.Common.{◌≡◌, ◌≤◌, ◌<◌, ℕ, ◌+◌, Bool, true, List, [], ◌∷◌, ◌++◌, length, map, nat_lt, refl, sym, ap, ◌∙◌, arith, length-append}
use Rattle.std.specs.List.{list_all}
use Rattle.std.proofs.lemmas.Bool.{ltb-true, lt-ltb, and_parts, and_from}
use Rattle.std.proofs.lemmas.List.{map-append, get_or_append_left}
use Rattle.std.proofs.lemmas.List.Folds.{list_all-append}
use Rattle.typed_plan.specs.declared.plan.Aggregate.{Aggregate}
use Rattle.typed_plan.specs.declared.plan.Aggregate.TheVariants.{Key}
use Rattle.batch_skipping.specs.ChosenColumns.{are_within}
use Rattle.scan_exec.specs.DistinctItems.{StandFor, item_at}

-- ---- an item more

-- what is within few is within more
wider : (few more : ℕ) (places : List ℕ) → few ≤ more → are_within few places ≡ true → are_within more places ≡ true
wider few more [] h all = refl
wider few more (place ∷ places) h all =
    let parts = and_parts (nat_lt place few) (are_within few places) all in
    and_from _ _ (lt-ltb place more (omega (arith, h, ltb-true place few parts.0))) (wider few more places h parts.1)

-- the items at places of a beginning
still : (some : List Aggregate) (item : Aggregate) (places : List ℕ) → are_within (length some) places ≡ true →
    map (item_at (some ++ item ∷ [])) places ≡ map (item_at some) places
still some item [] all = refl
still some item (place ∷ places) all =
    let parts = and_parts (nat_lt place (length some)) (are_within (length some) places) all in
    rw (get_or_append_left some (item ∷ []) (Key 0) place (ltb-true place (length some) parts.0), still some item places parts.1) refl

-- the last one
last_is : (some : List Aggregate) (item : Aggregate) → item_at (some ++ item ∷ []) (length some) ≡ item
last_is [] item = refl
last_is (first ∷ some) item = last_is some item

-- what holds of all holds of those before the last, and of the last
all_of_more : (test : Aggregate → Bool) (items : List Aggregate) (item : Aggregate) → list_all test (items ++ item ∷ []) ≡ true →
    (list_all test items ≡ true) × (list_all test (item ∷ []) ≡ true)
all_of_more test items item h = and_parts (list_all test items) (list_all test (item ∷ [])) (sym (list_all-append test items (item ∷ [])) ∙ h)

module _ (items some : List Aggregate) (places : List ℕ) (item : Aggregate) (stand : StandFor items some places) where
  -- which is there
  pub with_known : (place : ℕ) → place < length some → item_at some place ≡ item → StandFor (items ++ item ∷ []) some (places ++ place ∷ [])
  with_known place there is = record {
    each = map-append (item_at some) places (place ∷ []) ∙ ap (λ (begin : List Aggregate). begin ++ item_at some place ∷ []) stand.each
        ∙ ap (λ (last : Aggregate). items ++ last ∷ []) is;
    there = list_all-append (λ number. nat_lt number (length some)) places (place ∷ [])
        ∙ and_from _ _ stand.there (and_from _ _ (lt-ltb place (length some) there) refl);
    among = λ test h. stand.among test (all_of_more test items item h).0;
  }

  -- which is none of them
  pub with_new : StandFor (items ++ item ∷ []) (some ++ item ∷ []) (places ++ length some ∷ [])
  with_new =
      let long : length (some ++ item ∷ []) ≡ length some + 1 = length-append some (item ∷ []) in
      record {
        each = map-append (item_at (some ++ item ∷ [])) places (length some ∷ [])
            ∙ ap (λ (begin : List Aggregate). begin ++ item_at (some ++ item ∷ []) (length some) ∷ []) (still some item places stand.there ∙ stand.each)
            ∙ ap (λ (last : Aggregate). items ++ last ∷ []) (last_is some item);
        there = list_all-append (λ number. nat_lt number (length (some ++ item ∷ []))) places (length some ∷ [])
            ∙ and_from _ _ (wider (length some) (length (some ++ item ∷ [])) places (omega (arith, long)) stand.there)
            (and_from _ _ (lt-ltb (length some) (length (some ++ item ∷ [])) (omega (arith, long))) refl);
        among = λ test h. list_all-append test some (item ∷ [])
            ∙ and_from _ _ (stand.among test (all_of_more test items item h).0) (all_of_more test items item h).1;
      }
