-- Left rows whose number is no right key join nothing; the others join each row of their chain.
use Rattle.std.proofs.Common.{◌≡◌, ◌≤◌, ◌<◌, ◌+◌, ◌-ℤ◌, ◌^◌, ◌&&◌, ℕ, ℤ, pos, negsuc, FitsSigned, Bool, true, false, if◌then◌else◌, List, [], ◌∷◌, length, get_or, unwrap_or, Option, Some, None, refl, sym, ap, ◌∙◌, arith, inl, inr, subst, nat_lt, bit_and, ◌/◌, ◌%◌, ◌-◌, ◌+ℤ◌, ◌≤ℤ◌, suc, min}
use Rattle.std.specs.Int.{w64, w128, cast_unsigned, FitsUnsigned}
use Rattle.std.specs.List.{list_any}
use Rattle.std.specs.Option.{option_map}
use Rattle.std.specs.Ordering.{is_eq}
use Rattle.std.specs.Cmp.{int_cmp_is}
use Rattle.std.specs.declared.cmp.Ordering.TheVariants.{Equal as Same}
use Rattle.std.proofs.Math.Facts.{yes_ltb, yes_leb}
use Rattle.std.proofs.lemmas.Int.{ints}
use Rattle.std.proofs.lemmas.List.{length-map}
use Rattle.std.proofs.lemmas.Bool.{cases_lt, ltb-false, false≢true}
use Rattle.std.proofs.lemmas.Nat.{and_le_r}
use Rattle.scan_base.specs.declared.value.Value.{Value}
use Rattle.scan_base.specs.declared.comparison.Comparison.TheVariants.{Equal}
use Rattle.scan_base.specs.Comparison.{compared}
use Rattle.scan_base.specs.Truth.{keeps, truth_from}
use Rattle.scan_base.specs.declared.value.Value.TheVariants.{Null, Int, Text, Bool as Flag}
use Rattle.scan_base.specs.Value.{is_null}
use Rattle.scan_base.specs.Predicate.{cell_in}
use Rattle.arrays.specs.Batch.{row_of}
use Rattle.arrays.specs.Column.{ColumnAt, slot_of}
use Rattle.arrays.specs.Integers.{IntegersAt}
use Rattle.arrays.specs.Number.{integer_at}
use Rattle.arrays.specs.Validity.{is_valid, where_valid}
use Rattle.arrays.specs.declared.layout.Layout.TheVariants as layout
use Rattle.hash_join.specs.declared.ranks.Ranks.{Ranks}
use Rattle.hash_join.specs.declared.search.Search.{Search}
use Rattle.hash_join.specs.declared.buckets.Buckets.{Buckets}
use Rattle.hash_join.specs.declared.buckets.Buckets.TheVariants as parted
use Rattle.hash_join.specs.declared.number_look.BucketKind.{BucketKind}
use Rattle.hash_join.specs.declared.number_look.BucketKind.TheVariants as known
use Rattle.hash_join.specs.declared.product.Product.{Product}
use Rattle.hash_join.specs.Looks.{ranks_told}
use Rattle.hash_join.specs.Pairs.{keys_join}
use Rattle.hash_join.specs.Ranks.{rank_at}
use Rattle.hash_join.specs.Hashes.{hash_of, number_of, place_among, is_key, own_bucket, bucket_among, ranked_bucket, bucket_of, last_of, product_at, product_of, product_bucket, product_sum}
use Rattle.hash_join.specs.Indices.{index_among}
use Rattle.hash_join.specs.KeyRows.{row_key}
use Rattle.hash_join.specs.Chains.{stands, Leads}
use Rattle.hash_join.specs.Walks.{in_chain, pairs_past, bucket_left}
use Rattle.hash_join.specs.Rights.{key_at, bucket_at}
use Rattle.hash_join.proofs.EqualKeys.{standing}
use Rattle.hash_join.specs.Searches.{first_right, head_of, walk_at, AreKeysOf, HasBucket, IsHead, IsSearch, IsBucketKind, TellsNumbers}
use Rattle.hash_join.proofs.Cells.{part_at}
use Rattle.hash_join.proofs.Searching.{can_walk}
use Rattle.hash_join.proofs.Ranking.{rank_tells, rank_within}
use Rattle.hash_join.proofs.Walking.{head_leads, none_joins, none_led, past_all}

-- a number that is no place of the machine's is none of so few
pub no_index : (index : ℤ) (count : ℕ) → count < 2 ^ 64 → (FitsUnsigned w64 index → ⊥) → count ≡ index_among index count
no_index (pos index) count small wide = elim (cases_lt index (2 ^ 64)) [
  | inl low ↦ absurd (wide (record { le = yes_leb (omega arith) }, record { lt = yes_ltb (omega arith) }))
  | inr high ↦ omega (arith, high, small)
]
no_index (negsuc index) count small wide = refl

-- a number of 64 bits, the least, and what is between them as bits
pub near_index : (number least : ℤ) (count : ℕ) → FitsSigned w64 number → FitsSigned w64 least → (least +ℤ pos count) ≤ℤ pos (2 ^ 63) →
    min ((cast_unsigned w64 number + (2 ^ 64 - cast_unsigned w64 least)) % 2 ^ 64) count ≡ index_among (number -ℤ least) count
near_index number least count fits low near = by (number -ℤ least) refl
  where
    at_place : (number least : ℤ) (index : ℕ) → FitsSigned w64 number → FitsSigned w64 least → number ≡ (least +ℤ pos index) →
        (cast_unsigned w64 number + (2 ^ 64 - cast_unsigned w64 least)) % 2 ^ 64 ≡ index
    at_place (pos n) (pos m) index fits low e = omega (arith, ints, e, fits.sfits, low.sfits)
    at_place (pos n) (negsuc m) index fits low e = omega (arith, ints, e, fits.sfits, low.sfits)
    at_place (negsuc n) (pos m) index fits low e = omega (arith, ints, e, fits.sfits, low.sfits)
    at_place (negsuc n) (negsuc m) index fits low e = omega (arith, ints, e, fits.sfits, low.sfits)

    below : (number least : ℤ) (index : ℕ) → FitsSigned w64 number → FitsSigned w64 least → (least +ℤ pos count) ≤ℤ pos (2 ^ 63) → (number +ℤ pos (suc index)) ≡ least →
        count ≤ (cast_unsigned w64 number + (2 ^ 64 - cast_unsigned w64 least)) % 2 ^ 64
    below (pos n) (pos m) index fits low near e = omega (arith, ints, e, fits.sfits, low.sfits, near)
    below (pos n) (negsuc m) index fits low near e = omega (arith, ints, e, fits.sfits, low.sfits, near)
    below (negsuc n) (pos m) index fits low near e = omega (arith, ints, e, fits.sfits, low.sfits, near)
    below (negsuc n) (negsuc m) index fits low near e = omega (arith, ints, e, fits.sfits, low.sfits, near)

    by : (index : ℤ) → number -ℤ least ≡ index → min ((cast_unsigned w64 number + (2 ^ 64 - cast_unsigned w64 least)) % 2 ^ 64) count ≡ index_among index count
    by (pos index) e = ap (λ (place : ℕ). min place count) (at_place number least index fits low (omega (arith, ints, e)))
    by (negsuc index) e =
        let past = below number least index fits low near (omega (arith, ints, e)) in
        omega (arith, past)

-- nor is one that is none of 128 bits
pub no_difference : (index : ℤ) (count : ℕ) → count < 2 ^ 64 → (FitsSigned w128 index → ⊥) → count ≡ index_among index count
no_difference (pos index) count small wide = elim (cases_lt index (2 ^ 127)) [
  | inl low ↦ absurd (wide (record { sfits = omega (arith, low) }))
  | inr high ↦ omega (arith, high, small)
]
no_difference (negsuc index) count small wide = refl

-- a key of one part
one_part : (key : List Value) (value : Value) → length key ≡ 1 → value ≡ get_or key 0 Null → key ≡ value ∷ []
one_part [] value e is = absurd (omega (arith, e))
one_part (only ∷ []) value e is = ap (λ (v : Value). v ∷ []) (sym is)
one_part (first ∷ second ∷ key) value e is = absurd (omega (arith, e))

-- a number that has its own bucket is a right key
own_is : (ranks : Ranks) (number : ℤ) (told : ℕ) → own_bucket ranks number ≡ Some told →
    (is_key ranks number ≡ true) × (rank_at ranks.keys (place_among ranks.span number) ≡ told)
own_is ranks number told e = by (is_key ranks number) refl e
  where
    by : (one : Bool) → is_key ranks number ≡ one → (if one then Some (rank_at ranks.keys (place_among ranks.span number)) else None) ≡ Some told →
        (is_key ranks number ≡ true) × (rank_at ranks.keys (place_among ranks.span number) ≡ told)
    by true one e = let same : rank_at ranks.keys (place_among ranks.span number) ≡ told = cc in (one, same)
    by false one e = cc

-- its bucket is not the last
own_within : (ranks : Ranks) (number : ℤ) (told : ℕ) → own_bucket ranks number ≡ Some told → told < ranks.last
own_within ranks number told e =
    let own = own_is ranks number told e in
    omega (arith, rank_within ranks.keys (place_among ranks.span number) own.0, own.1, ranks.some)

-- the place of a number tells the number
place_tells : (index : ℤ) (count told : ℕ) → index_among index count ≡ told → told < count → index ≡ pos told
place_tells (pos index) count told e less = ap pos (omega (arith, e, less))
place_tells (negsuc index) count told e less = absurd (omega (arith, e, less))

-- no place is after the one after the span's
index_few : (index : ℤ) (count : ℕ) → index_among index count ≤ count
index_few (pos index) count = omega arith
index_few (negsuc index) count = omega arith

-- a place whose bit is 1 is that of a number of the span
own_place : (ranks : Ranks) (place : ℕ) → place ≤ ranks.span.count → get_or ranks.keys place false ≡ true → place < ranks.span.count
own_place ranks place few one = elim (cases_lt place ranks.span.count) [
  | inl within ↦ within
  | inr past ↦
      let last : place ≡ ranks.span.count = omega (arith, past, few) in
      absurd (false≢true (sym (ap (λ (at : ℕ). get_or ranks.keys at false) last ∙ ranks.end) ∙ one))
]

-- so does its own bucket
own_tells : (ranks : Ranks) (number other : ℤ) (told : ℕ) → own_bucket ranks number ≡ Some told → own_bucket ranks other ≡ Some told → number ≡ other
own_tells ranks number other told e f =
    let one = own_is ranks number told e in
    let also = own_is ranks other told f in
    let place = place_among ranks.span number in
    let same : place ≡ place_among ranks.span other = rank_tells ranks.keys place (place_among ranks.span other) one.0 also.0 (one.1 ∙ sym also.1) in
    let within : place < ranks.span.count = own_place ranks place (index_few (number -ℤ ranks.span.least) ranks.span.count) one.0 in
    let here = place_tells (number -ℤ ranks.span.least) ranks.span.count place refl within in
    let there = place_tells (other -ℤ ranks.span.least) ranks.span.count place (sym same) within in
    omega (arith, ints, here, there)

-- a key that is a number
number_tells : (key : List Value) (number : ℤ) → number_of key ≡ Some number → key ≡ Int number ∷ []
number_tells [] number e = cc
number_tells (Null ∷ []) number e = cc
number_tells (Flag flag ∷ []) number e = cc
number_tells (Text text ∷ []) number e = cc
number_tells (Int found ∷ []) number e = let same : found ≡ number = cc in ap (λ (n : ℤ). Int n ∷ []) same
number_tells (Null ∷ second ∷ rest) number e = cc
number_tells (Flag flag ∷ second ∷ rest) number e = cc
number_tells (Text text ∷ second ∷ rest) number e = cc
number_tells (Int found ∷ second ∷ rest) number e = cc

-- a key whose bucket is not the last is a number that has it as its own
key_told : (ranks : Ranks) (key : List Value) (told : ℕ) → ranked_bucket ranks key ≡ Some told → told < ranks.last →
    (number : ℤ) × (key ≡ Int number ∷ []) × (own_bucket ranks number ≡ Some told)
key_told ranks key told e less = by (list_any is_null key) (number_of key) refl e
  where
    own : (number : ℤ) (bucket : Option ℕ) → own_bucket ranks number ≡ bucket → unwrap_or bucket ranks.last ≡ told → own_bucket ranks number ≡ Some told
    own number None is same = absurd (omega (arith, same, less))
    own number (Some bucket) is same = is ∙ ap Some same

    by : (null : Bool) (found : Option ℤ) → number_of key ≡ found → (if null then None else Some (bucket_among ranks found)) ≡ Some told →
        (number : ℤ) × (key ≡ Int number ∷ []) × (own_bucket ranks number ≡ Some told)
    by true found is e = cc
    by false None is e = let same : ranks.last ≡ told = cc in absurd (omega (arith, same, less))
    by false (Some number) is e =
        let same : unwrap_or (own_bucket ranks number) ranks.last ≡ told = cc in
        (number, number_tells key number is, own number (own_bucket ranks number) refl same)

some_is : {a b : ℕ} → ◌≡◌ {A = Option ℕ} (Some a) (Some b) → a ≡ b
some_is e = cc

-- a number is equal to itself
equal_numbers : (number : ℤ) → keeps (compared Equal (Int number) (Int number)) ≡ true
equal_numbers number = ap (λ order. keeps (truth_from (is_eq order))) (sym (int_cmp_is number number Same refl))

-- keys of one bucket that is not the last are equal
told_joins : (ranks : Ranks) (left right : List Value) (told : ℕ) → ranked_bucket ranks left ≡ Some told → ranked_bucket ranks right ≡ Some told → told < ranks.last → keys_join left right ≡ true
told_joins ranks left right told l r less =
    let one = key_told ranks left told l less in
    let other = key_told ranks right told r less in
    let same : one.0 ≡ other.0 = own_tells ranks one.0 other.0 told one.2 other.2 in
    rw (one.1, other.1, same) (ap (λ (b : Bool). b && true) (equal_numbers other.0))

-- a key of one part that is null has no bucket
null_bucket : (buckets : Buckets) → bucket_of buckets (Null ∷ []) ≡ None
null_bucket (parted.Hashed hashing) = refl
null_bucket (parted.Multiplied product) = refl
null_bucket (parted.Ranked ranks) = refl

-- each bucket is there
bucket_within : (buckets : Buckets) (key : List Value) (bucket : ℕ) → bucket_of buckets key ≡ Some bucket → bucket ≤ last_of buckets
bucket_within (parted.Hashed hashing) key bucket e = by (hash_of hashing.begun key) e
  where
    by : (found : Option ℕ) → option_map (λ hash. bit_and hash hashing.mask) found ≡ Some bucket → bucket ≤ hashing.mask
    by None e = cc
    by (Some hash) e = let same : bit_and hash hashing.mask ≡ bucket = some_is e in omega (arith, same, and_le_r hash hashing.mask)
bucket_within (parted.Multiplied product) key bucket e = by (list_any is_null key) (number_of key) e
  where
    by : (null : Bool) (found : Option ℤ) → (if null then None else Some (product_of product found)) ≡ Some bucket → bucket ≤ product.mask
    by true found e = cc
    by false None e = let same : 0 ≡ bucket = some_is e in omega (arith, same)
    by false (Some number) e =
        let same : product_at product number ≡ bucket = some_is e in
        omega (arith, same, and_le_r (product_sum product (cast_unsigned w128 number) / 2 ^ product.shift) product.mask)
bucket_within (parted.Ranked ranks) key bucket e = by (list_any is_null key) (number_of key) e
  where
    own : (number : ℤ) (found : Option ℕ) → own_bucket ranks number ≡ found → unwrap_or found ranks.last ≡ bucket → bucket ≤ ranks.last
    own number None is same = omega (arith, same)
    own number (Some told) is same = omega (arith, own_within ranks number told is, same)

    by : (null : Bool) (found : Option ℤ) → (if null then None else Some (bucket_among ranks found)) ≡ Some bucket → bucket ≤ ranks.last
    by true found e = cc
    by false None e = let same : ranks.last ≡ bucket = some_is e in omega (arith, same)
    by false (Some number) e = own number (own_bucket ranks number) refl (some_is e)

module _ (search : Search) (is : IsSearch search) where
  -- the first right row of a left row's chain
  pub first_leads : (row : ℕ) → row < search.left.batch.now.rows → IsHead search false row (first_right search row)
  first_leads row h = record { leads = by (bucket_left (walk_at search row)) refl; all = λ own_is. cc }
    where
      count : ℕ
      count = length search.rights.now.places.items

      by : (found : Option ℕ) → bucket_left (walk_at search row) ≡ found → Leads (in_chain (walk_at search row)) count 0 (head_of search found)
      by None e = record {
        after = omega arith;
        none = λ right from to. ap (λ (left : Option ℕ). stands left (bucket_at search.rights.now right)) e;
        there = λ lt. absurd (omega (arith, lt));
      }
      by (Some bucket) e =
          head_leads (walk_at search row) (can_walk search is row h) bucket e
          (bucket_within search.rights.now.buckets (row_key (walk_at search row).left) bucket e)

  -- the last of the ranks' buckets has no right row
  module _ (ranks : Ranks) (parts : search.rights.now.buckets ≡ parted.Ranked ranks)
      (empty : length search.rights.now.places.items ≤ get_or search.chains.now.heads.items ranks.last 0) where
    -- the bucket of a row whose key is a number
    row_bucket : (row : ℕ) (number : ℤ) → row_key (walk_at search row).left ≡ Int number ∷ [] → bucket_left (walk_at search row) ≡ Some (bucket_among ranks (Some number))
    row_bucket row number key = ap (λ b. bucket_of b (row_key (walk_at search row).left)) parts ∙ ap (ranked_bucket ranks) key

    -- a row whose number is no right key joins nothing
    other_row : (row from : ℕ) (number : ℤ) → row < search.left.batch.now.rows → row_key (walk_at search row).left ≡ Int number ∷ [] → is_key ranks number ≡ false →
        pairs_past (walk_at search row) from ≡ []
    other_row row from number h key bit =
        let own : own_bucket ranks number ≡ None =
        ap (λ (b : Bool). if b then Some (rank_at ranks.keys (place_among ranks.span number)) else None) bit in
        let bucket : bucket_left (walk_at search row) ≡ Some ranks.last =
        row_bucket row number key ∙ ap (λ (b : Option ℕ). Some (unwrap_or b ranks.last)) own in
        let last : last_of search.rights.now.buckets ≡ ranks.last = ap last_of parts in
        none_led (walk_at search row) (can_walk search is row h) ranks.last from bucket (omega (arith, last)) empty

    -- a row whose number is a right key joins each right row of its bucket
    own_row : (row : ℕ) (number : ℤ) (told : ℕ) → row_key (walk_at search row).left ≡ Int number ∷ [] → own_bucket ranks number ≡ Some told → IsBucketKind search row (known.Own told)
    own_row row number told key e =
        let less = own_within ranks number told e in
        let left : ranked_bucket ranks (row_key (walk_at search row).left) ≡ Some told =
        ap (ranked_bucket ranks) key ∙ ap (λ (b : Option ℕ). Some (unwrap_or b ranks.last)) e in
        let bucket : bucket_left (walk_at search row) ≡ Some told = ap (λ b. bucket_of b (row_key (walk_at search row).left)) parts ∙ left in
        let last : last_of search.rights.now.buckets ≡ ranks.last = ap last_of parts in (
          record { is = bucket; within = omega (arith, less, last) },
          λ right low stands_there.
              let found = standing (bucket_left (walk_at search row)) (bucket_at search.rights.now right) stands_there in
              let same : found.0 ≡ told = some_is (sym found.1 ∙ bucket) in
              let there : ranked_bucket ranks (key_at search.rights.now right) ≡ Some told =
              sym (ap (λ b. bucket_of b (key_at search.rights.now right)) parts) ∙ found.2 ∙ ap Some same in
              told_joins ranks (row_key (walk_at search row).left) (key_at search.rights.now right) told left there less,
        )

    told_row : (row : ℕ) (number : ℤ) → row_key (walk_at search row).left ≡ Int number ∷ [] → IsBucketKind search row (ranks_told ranks number)
    told_row row number key = by (is_key ranks number) refl
      where
        by : (one : Bool) → is_key ranks number ≡ one → IsBucketKind search row (if one then known.Own (rank_at ranks.keys (place_among ranks.span number)) else known.Nothing)
        by true one = own_row row number (rank_at ranks.keys (place_among ranks.span number)) key
            (ap (λ (b : Bool). if b then Some (rank_at ranks.keys (place_among ranks.span number)) else None) one)
        by false one = tt

    -- the head of the chain of a row whose key is a right key
    own_head : (row : ℕ) (number : ℤ) → row < search.left.batch.now.rows → row_key (walk_at search row).left ≡ Int number ∷ [] → is_key ranks number ≡ true →
        IsHead search true row (get_or search.chains.now.heads.items (bucket_among ranks (Some number)) 0)
    own_head row number h key one =
        let rank = rank_at ranks.keys (place_among ranks.span number) in
        let e : own_bucket ranks number ≡ Some rank = ap (λ (b : Bool). if b then Some rank else None) one in
        let told = own_row row number rank key e in
        let same : bucket_among ranks (Some number) ≡ rank = ap (λ (b : Option ℕ). unwrap_or b ranks.last) e in
        subst (λ (bucket : ℕ). IsHead search true row (get_or search.chains.now.heads.items bucket 0)) (sym same)
        (record { leads = head_leads (walk_at search row) (can_walk search is row h) rank told.0.is told.0.within; all = λ own_is. told.1 })

    pub ranks_tell : (heads : List ℕ) → heads ≡ search.chains.now.heads.items →
        TellsNumbers search (is_key ranks) (ranks_told ranks) (λ number. get_or heads (bucket_among ranks (Some number)) 0) true
    ranks_tell heads heads_are = record {
      sound = other_row;
      holds = λ row number h key. told_row row number key;
      heads = λ row number h key one. subst (λ (all : List ℕ). IsHead search true row (get_or all (bucket_among ranks (Some number)) 0)) (sym heads_are) (own_head row number h key one);
    }

  -- the chains of buckets by a product tell of numbers
  module _ (product : Product) (parts : search.rights.now.buckets ≡ parted.Multiplied product) where
    -- the bucket of a row whose key is a number
    product_row : (row : ℕ) (number : ℤ) → row_key (walk_at search row).left ≡ Int number ∷ [] → HasBucket search row (product_at product number)
    product_row row number key = record {
      is = ap (λ b. bucket_of b (row_key (walk_at search row).left)) parts ∙ ap (product_bucket product) key;
      within = subst (λ (buckets : Buckets). product_at product number ≤ last_of buckets) (sym parts) (and_le_r (product_sum product (cast_unsigned w128 number) / 2 ^ product.shift) product.mask);
    }

    pub products_tell : (heads : List ℕ) (count : ℕ) → heads ≡ search.chains.now.heads.items → count ≡ length search.rights.now.places.items →
        TellsNumbers search (λ number. nat_lt (get_or heads (product_at product number) 0) count) (λ number. known.Shared (product_at product number))
        (λ number. get_or heads (product_at product number) 0) false
    products_tell heads count heads_are counted = record {
      sound = λ row from number h key empty.
          let has = product_row row number key in
          let bucket = product_at product number in
          let none : count ≤ get_or heads bucket 0 = ltb-false (get_or heads bucket 0) count empty in
          let same : get_or heads bucket 0 ≡ get_or search.chains.now.heads.items bucket 0 = ap (λ (all : List ℕ). get_or all bucket 0) heads_are in
          none_led (walk_at search row) (can_walk search is row h) bucket from has.is has.within (omega (arith, none, same, counted));
      holds = λ row number h key. product_row row number key;
      heads = λ row number h key passes.
          let has = product_row row number key in
          subst (λ (all : List ℕ). IsHead search false row (get_or all (product_at product number) 0)) (sym heads_are)
          (record { leads = head_leads (walk_at search row) (can_walk search is row h) (product_at product number) has.is has.within; all = λ own_is. cc });
    }

  module _ (cells : IntegersAt) (first : ℕ) (are : AreKeysOf search cells first) (row : ℕ) (h : row < search.left.batch.now.rows) where
    -- the key of a left row
    key_is : row_key (walk_at search row).left ≡ where_valid cells.validity (λ at. Int (integer_at cells.integer cells.values at)) (first + row) ∷ []
    key_is =
        let columns = search.left.batch.now.columns in
        let column : ColumnAt = record { layout = layout.Integers cells; first = first; len = search.left.batch.now.rows } in
        one_part (row_key (walk_at search row).left) (slot_of column row) (length-map search.left.key.now (cell_in (row_of columns row)) ∙ are.single)
        (part_at columns search.left.key.now row 0 column is.columns (omega (arith, are.single)) (sym (are.slots column)))

    -- a row that is null joins nothing
    null_row : (from : ℕ) → is_valid cells.validity (first + row) ≡ false → pairs_past (walk_at search row) from ≡ []
    null_row from e =
        let null : row_key (walk_at search row).left ≡ Null ∷ [] =
        key_is ∙ ap (λ (valid : Bool). (if valid then Int (integer_at cells.integer cells.values (first + row)) else Null) ∷ []) e in
        let bucket : bucket_left (walk_at search row) ≡ None = ap (bucket_of search.rights.now.buckets) null ∙ null_bucket search.rights.now.buckets in
        none_joins (walk_at search row) (can_walk search is row h) from (length search.rights.now.places.items) bucket (omega arith)
        ∙ past_all (walk_at search row) (can_walk search is row h)

    -- the key of a row that is not
    number_row : is_valid cells.validity (first + row) ≡ true → row_key (walk_at search row).left ≡ Int (integer_at cells.integer cells.values (first + row)) ∷ []
    number_row valid = key_is ∙ ap (λ (v : Bool). (if v then Int (integer_at cells.integer cells.values (first + row)) else Null) ∷ []) valid

    module _ (passes : ℤ → Bool) (told : ℤ → BucketKind) (head : ℤ → ℕ) (own : Bool) (tells : TellsNumbers search passes told head own) where
      -- a row that does not pass joins nothing
      pub row_stopped : (from : ℕ) → (is_valid cells.validity (first + row) && passes (integer_at cells.integer cells.values (first + row))) ≡ false → pairs_past (walk_at search row) from ≡ []
      row_stopped from e = by (is_valid cells.validity (first + row)) refl e
        where
          by : (valid : Bool) → is_valid cells.validity (first + row) ≡ valid → (valid && passes (integer_at cells.integer cells.values (first + row))) ≡ false →
              pairs_past (walk_at search row) from ≡ []
          by true valid bit = tells.sound row from (integer_at cells.integer cells.values (first + row)) h (number_row valid) bit
          by false null bit = null_row from null

      -- what is told of a row is so
      pub row_told : IsBucketKind search row (if is_valid cells.validity (first + row) then told (integer_at cells.integer cells.values (first + row)) else known.Nothing)
      row_told = by (is_valid cells.validity (first + row)) refl
        where
          by : (valid : Bool) → is_valid cells.validity (first + row) ≡ valid → IsBucketKind search row (if valid then told (integer_at cells.integer cells.values (first + row)) else known.Nothing)
          by true valid = tells.holds row (integer_at cells.integer cells.values (first + row)) h (number_row valid)
          by false null = tt

      -- and so is the head of the chain of a row that passes
      pub row_head : (is_valid cells.validity (first + row) && passes (integer_at cells.integer cells.values (first + row))) ≡ true →
          IsHead search own row (head (integer_at cells.integer cells.values (first + row)))
      row_head e = by (is_valid cells.validity (first + row)) refl e
        where
          by : (valid : Bool) → is_valid cells.validity (first + row) ≡ valid → (valid && passes (integer_at cells.integer cells.values (first + row))) ≡ true →
              IsHead search own row (head (integer_at cells.integer cells.values (first + row)))
          by true valid bit = tells.heads row (integer_at cells.integer cells.values (first + row)) h (number_row valid) bit
          by false null bit = cc
