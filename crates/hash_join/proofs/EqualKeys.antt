-- Keys that join are of one bucket.
use Rattle.std.proofs.Common.{◌≡◌, ℕ, ℤ, Bool, if◌then◌else◌, option_map, true, false, List, [], ◌∷◌, length, Option, Some, None, refl, sym, ap, ◌∙◌, arith}
use Rattle.std.specs.List.{list_any}
use Rattle.std.specs.Ordering.{int_cmp, nat_cmp, bool_cmp, is_eq}
use Rattle.std.specs.Cmp.Lexicographic.{slice_cmp}
use Rattle.std.specs.Cmp.{Equal-is, int_ranks}
use Rattle.std.specs.Hash.DefaultHasher as sip
use Rattle.std.specs.Int.Bits.{bit_and}
use Rattle.std.specs.declared.cmp.Ordering.TheVariants.{Equal as Same}
use Rattle.std.specs.declared.hash.DefaultHasher.{DefaultHasher}
use Rattle.std.proofs.lemmas.Bool.{and_parts, eq-eqb, eqb-true, false≢true}
use Rattle.std.proofs.lemmas.Map.Text.{is_eq-slice_cmp}
use Rattle.std.proofs.lemmas.Slice.Eq.{bytes_eq-Decides}
use Rattle.scan_base.specs.declared.comparison.Comparison.TheVariants.{Equal}
use Rattle.scan_base.specs.declared.value.Value.{Value}
use Rattle.scan_base.specs.declared.value.Value.TheVariants.{Null, Bool as Flag, Int, Text}
use Rattle.scan_base.specs.Comparison.{compared}
use Rattle.scan_base.specs.Truth.{keeps, truth_from}
use Rattle.scan_base.specs.Value.{is_null}
use Rattle.hash_join.specs.Pairs.{keys_join}
use Rattle.hash_join.specs.declared.buckets.Buckets.{Buckets}
use Rattle.hash_join.specs.declared.buckets.Buckets.TheVariants as parted
use Rattle.hash_join.specs.Hashes.{fed, fed_part, hash_of, parts_hash, number_of, product_of, bucket_among, bucket_of}
use Rattle.hash_join.specs.Chains.{stands}

kept : (b : Bool) → keeps (truth_from b) ≡ true → b ≡ true
kept true h = refl
kept false h = cc

same_flags : (a b : Bool) → is_eq (bool_cmp a b) ≡ true → a ≡ b
same_flags true true h = refl
same_flags false false h = refl
same_flags true false h = cc
same_flags false true h = cc

-- values that are equal in SQL are the same
equal_values : (a b : Value) → keeps (compared Equal a b) ≡ true → a ≡ b
equal_values (Flag a) (Flag b) h = ap Flag (same_flags a b (kept (is_eq (bool_cmp a b)) h))
equal_values (Int a) (Int b) h =
    let e : int_cmp a b ≡ Same = (Equal-is (int_cmp a b)).0 (kept (is_eq (int_cmp a b)) h) in
    ap Int (rw e at (int_ranks a b))
equal_values (Text a) (Text b) h =
    ap Text ((bytes_eq-Decides a b).0 (sym (is_eq-slice_cmp a b) ∙ kept (is_eq (slice_cmp nat_cmp a b)) h))
equal_values _ _ h = cc

-- neither of them is null
equal_known : (a b : Value) → keeps (compared Equal a b) ≡ true → is_null a ≡ false
equal_known Null b h = cc
equal_known (Flag a) b h = refl
equal_known (Int a) b h = refl
equal_known (Text a) b h = refl

-- keys that join are the same
pub same_keys : (xs ys : List Value) → length xs ≡ length ys → keys_join xs ys ≡ true → xs ≡ ys
same_keys [] [] e h = refl
same_keys [] (b ∷ ys) e h = absurd (omega (arith, e))
same_keys (a ∷ xs) [] e h = absurd (omega (arith, e))
same_keys (a ∷ xs) (b ∷ ys) e h =
    let parts = and_parts (keeps (compared Equal a b)) (keys_join xs ys) h in
    ap (λ v. v ∷ xs) (equal_values a b parts.0) ∙ ap (λ vs. b ∷ vs) (same_keys xs ys (omega (arith, e)) parts.1)

-- parts that join have a hash
some_parts : (begun hasher : DefaultHasher) (xs ys : List Value) → length xs ≡ length ys → keys_join xs ys ≡ true →
    (hash : ℕ) × (parts_hash begun hasher xs ≡ Some hash)
some_parts begun hasher [] ys e h = (_, refl)
some_parts begun hasher (a ∷ xs) [] e h = absurd (omega (arith, e))
some_parts begun hasher (a ∷ xs) (b ∷ ys) e h =
    let parts = and_parts (keeps (compared Equal a b)) (keys_join xs ys) h in
    let rest = some_parts begun (fed_part begun hasher a) xs ys (omega (arith, e)) parts.1 in
    (rest.0, rw (equal_known a b parts.0) rest.1)

-- a key that joins has a hash
some_hash : (begun : DefaultHasher) (xs ys : List Value) → length xs ≡ length ys → keys_join xs ys ≡ true →
    (hash : ℕ) × (hash_of begun xs ≡ Some hash)
some_hash begun [] ys e h = (_, refl)
some_hash begun (a ∷ []) [] e h = absurd (omega (arith, e))
some_hash begun (a ∷ []) (b ∷ ys) e h =
    let parts = and_parts (keeps (compared Equal a b)) (keys_join [] ys) h in
    (sip.finish (fed begun a), ap (λ (null : Bool). if null then None else Some (sip.finish (fed begun a))) (equal_known a b parts.0))
some_hash begun (a ∷ second ∷ xs) ys e h = some_parts begun begun (a ∷ second ∷ xs) ys e h

-- no part of it is null
none_null : (xs ys : List Value) → length xs ≡ length ys → keys_join xs ys ≡ true → list_any is_null xs ≡ false
none_null [] ys e h = refl
none_null (a ∷ xs) [] e h = absurd (omega (arith, e))
none_null (a ∷ xs) (b ∷ ys) e h =
    let parts = and_parts (keeps (compared Equal a b)) (keys_join xs ys) h in
    rw (equal_known a b parts.0) (none_null xs ys (omega (arith, e)) parts.1)

-- a key that joins has a bucket
some_bucket : (buckets : Buckets) (xs ys : List Value) → length xs ≡ length ys → keys_join xs ys ≡ true → (bucket : ℕ) × (bucket_of buckets xs ≡ Some bucket)
some_bucket (parted.Hashed hashing) xs ys e h =
    let hash = some_hash hashing.begun xs ys e h in (_, ap (option_map (λ hash. bit_and hash hashing.mask)) hash.1)
some_bucket (parted.Multiplied product) xs ys e h =
    (product_of product (number_of xs), ap (λ (null : Bool). if null then None else Some (product_of product (number_of xs))) (none_null xs ys e h))
some_bucket (parted.Ranked ranks) xs ys e h =
    (bucket_among ranks (number_of xs), ap (λ (null : Bool). if null then None else Some (bucket_among ranks (number_of xs))) (none_null xs ys e h))

-- keys that join are of one bucket
one_bucket : (buckets : Buckets) (xs ys : List Value) → length xs ≡ length ys → keys_join xs ys ≡ true →
    stands (bucket_of buckets xs) (bucket_of buckets ys) ≡ true
one_bucket buckets xs ys e h =
    let bucket = some_bucket buckets xs ys e h in
    rw (← same_keys xs ys e h) (rw bucket.1 (eq-eqb bucket.0 bucket.0 refl))

-- keys of two buckets do not join
pub two_buckets : (buckets : Buckets) (xs ys : List Value) → length xs ≡ length ys →
    stands (bucket_of buckets xs) (bucket_of buckets ys) ≡ false → keys_join xs ys ≡ false
two_buckets buckets xs ys e apart = of (keys_join xs ys) refl
  where
    of : (joined : Bool) → keys_join xs ys ≡ joined → joined ≡ false
    of true h = absurd (false≢true (sym apart ∙ one_bucket buckets xs ys e h))
    of false h = refl

-- a row that stands in a chain has its bucket
pub standing : (o p : Option ℕ) → stands o p ≡ true → (bucket : ℕ) × (o ≡ Some bucket) × (p ≡ Some bucket)
standing None p h = absurd (false≢true h)
standing (Some a) None h = absurd (false≢true h)
standing (Some a) (Some b) h = (a, refl, ap Some (eqb-true b a h))

-- a key that is a number has no null
pub number_known : (key : List Value) (number : ℤ) → number_of key ≡ Some number → list_any is_null key ≡ false
number_known [] number e = cc
number_known (Null ∷ []) number e = cc
number_known (Flag flag ∷ []) number e = cc
number_known (Text text ∷ []) number e = cc
number_known (Int found ∷ []) number e = refl
number_known (Null ∷ second ∷ rest) number e = cc
number_known (Flag flag ∷ second ∷ rest) number e = cc
number_known (Text text ∷ second ∷ rest) number e = cc
number_known (Int found ∷ second ∷ rest) number e = cc
