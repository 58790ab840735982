-- Inside: the bucket of a key. It is a function of the key's values, so that equal keys have one;
-- nothing else matters of it.
use Rattle.std.specs.Prelude.{◌+◌, ◌-ℤ◌, ◌*◌, ◌/◌, ◌%◌, ◌^◌, ℕ, ℤ, Bool, false, List, [], ◌∷◌}
use Rattle.std.specs.Prelude.{Option, Some, None, unwrap_or, get_or, if◌then◌else◌, bit_and}
use Rattle.std.specs.Int.{w128, cast_unsigned}
use Rattle.std.specs.List.{fold, list_any}
use Rattle.std.specs.Option.{option_map}
use Rattle.std.specs.Hash as written
use Rattle.std.specs.Hash.DefaultHasher as sip
use Rattle.std.specs.declared.hash.DefaultHasher.{DefaultHasher}
use Rattle.scan_base.specs.declared.value.Value.{Value}
use Rattle.scan_base.specs.declared.value.Value.TheVariants.{Null, Bool as Flag, Int, Text}
use Rattle.scan_base.specs.Value.{is_null}
use Rattle.hash_join.specs.declared.buckets.BucketHash.{BucketHash}
use Rattle.hash_join.specs.declared.product.Product.{Product}
use Rattle.hash_join.specs.declared.spans.Span.{Span}
use Rattle.hash_join.specs.declared.ranks.Ranks.{Ranks}
use Rattle.hash_join.specs.declared.buckets.Buckets.{Buckets}
use Rattle.hash_join.specs.declared.buckets.Buckets.TheVariants as parted
use Rattle.hash_join.specs.Indices.{index_among}
use Rattle.hash_join.specs.Ranks.{rank_at}

-- a hasher that was fed a value
abbrev pub fed : DefaultHasher → Value → DefaultHasher
fed hasher Null = hasher
fed hasher (Flag flag) = fold sip.write hasher (written.bool flag)
fed hasher (Int number) = fold sip.write hasher (written.i128 number)
fed hasher (Text text) = fold sip.write hasher (written.str text)

-- the digest of a text: its own hash, which begins as that of a key
abbrev pub text_digest : DefaultHasher → List ℕ → ℕ
text_digest begun text = sip.finish (fold sip.write begun (written.str text))

-- a hasher that was fed one of several parts: of a text its digest
abbrev pub fed_part : DefaultHasher → DefaultHasher → Value → DefaultHasher
fed_part begun hasher Null = hasher
fed_part begun hasher (Flag flag) = fed hasher (Flag flag)
fed_part begun hasher (Int number) = fed hasher (Int number)
fed_part begun hasher (Text text) = fold sip.write hasher (written.u64 (text_digest begun text))

-- the hash of the parts that follow those that a hasher was fed; none where one of them is null
abbrev pub parts_hash : DefaultHasher → DefaultHasher → List Value → Option ℕ
parts_hash begun hasher [] = Some (sip.finish hasher)
parts_hash begun hasher (value ∷ values) =
    if is_null value then None else parts_hash begun (fed_part begun hasher value) values

-- the hash of a key that is one value
abbrev pub value_hash : DefaultHasher → Value → Option ℕ
value_hash begun value = if is_null value then None else Some (sip.finish (fed begun value))

-- the hash of a key; none where a part of it is null
abbrev pub hash_of : DefaultHasher → List Value → Option ℕ
hash_of begun [] = parts_hash begun begun []
hash_of begun (value ∷ []) = value_hash begun value
hash_of begun (value ∷ second ∷ values) = parts_hash begun begun (value ∷ second ∷ values)

-- the bucket of a key by its hash: the last bits of it
abbrev pub hashed_bucket : BucketHash → List Value → Option ℕ
hashed_bucket hashing key =
    option_map (λ hash. bit_and hash hashing.mask) (hash_of hashing.begun key)

-- the number that is the key; none where it has several parts, or is no number
abbrev pub number_of : List Value → Option ℤ
number_of (Int number ∷ []) = Some number
number_of _ = None

-- the products of the halves of a number with the two secret ones, added in 64 bits
abbrev pub product_sum : Product → ℕ → ℕ
product_sum product bits =
    (bits % 2 ^ 64 * product.odd % 2 ^ 64 + bits / 2 ^ 64 * product.high % 2 ^ 64) % 2 ^ 64

-- the bucket of a number by that sum: the first bits of it
abbrev pub product_at : Product → ℤ → ℕ
product_at product number =
    bit_and (product_sum product (cast_unsigned w128 number) / 2 ^ product.shift) product.mask

-- a key that is no number has the first bucket
abbrev pub product_of : Product → Option ℤ → ℕ
product_of product (Some number) = product_at product number
product_of product None = 0

-- the bucket of a key by the product of its number; none where a part of it is null
abbrev pub product_bucket : Product → List Value → Option ℕ
product_bucket product key =
    if list_any is_null key then None else Some (product_of product (number_of key))

-- the place of a number among those of a span; after the last of them where it is none of them
abbrev pub place_among : Span → ℤ → ℕ
place_among span number = index_among (number -ℤ span.least) span.count

-- whether a number is a right key, as far as the bits say
abbrev pub is_key : Ranks → ℤ → Bool
is_key ranks number = get_or ranks.keys (place_among ranks.span number) false

-- the bucket of a number, where no other key has it: how many right keys are before it
abbrev pub own_bucket : Ranks → ℤ → Option ℕ
own_bucket ranks number =
    if is_key ranks number then Some (rank_at ranks.keys (place_among ranks.span number)) else None

-- the bucket of a number: its own where it has one, and else the last
abbrev pub bucket_among : Ranks → Option ℤ → ℕ
bucket_among ranks (Some number) = unwrap_or (own_bucket ranks number) ranks.last
bucket_among ranks None = ranks.last

-- the bucket of a key by its number; none where a part of it is null
abbrev pub ranked_bucket : Ranks → List Value → Option ℕ
ranked_bucket ranks key =
    if list_any is_null key then None else Some (bucket_among ranks (number_of key))

-- the bucket of a key; none where a part of it is null
abbrev pub bucket_of : Buckets → List Value → Option ℕ
bucket_of (parted.Hashed hashing) key = hashed_bucket hashing key
bucket_of (parted.Multiplied product) key = product_bucket product key
bucket_of (parted.Ranked ranks) key = ranked_bucket ranks key

-- the digest of a value that is a text, where keys are hashed
abbrev pub digest_of : Buckets → Value → Option ℕ
digest_of (parted.Hashed hashing) (Text text) = Some (text_digest hashing.begun text)
digest_of (parted.Hashed hashing) Null = None
digest_of (parted.Hashed hashing) (Flag flag) = None
digest_of (parted.Hashed hashing) (Int number) = None
digest_of (parted.Multiplied product) value = None
digest_of (parted.Ranked ranks) value = None

-- the digests of parts of the keys of rows
abbrev pub key_digest : Buckets → (ℕ → List Value) → ℕ → ℕ → Option ℕ
key_digest buckets keys row part = digest_of buckets (get_or (keys row) part Null)

-- the last bucket
abbrev pub last_of : Buckets → ℕ
last_of (parted.Hashed hashing) = hashing.mask
last_of (parted.Multiplied product) = product.mask
last_of (parted.Ranked ranks) = ranks.last
