-- Texts of a few bytes as numbers.
use Rattle.std.proofs.Common.{◌≡◌, ◌≤◌, ◌<◌, ℕ, Bool, false, zero, suc, ◌+◌, ◌-◌, ◌*◌, ◌^◌, ◌/◌, ◌%◌, List, [], ◌∷◌, length, take, drop, refl, sym, ap, ◌∙◌, arith}
use Rattle.std.specs.Prelude.{slice_index, slice_range, ◌==◌, if◌then◌else◌}
use borrow.Author.Tests.{ne_eqb}
use Rattle.std.specs.Int.{w64, cast_signed}
use Rattle.std.proofs.Math.Nat.{mod-one, pow-le-pow_right}
use Rattle.std.proofs.lemmas.Nat.{mod-pow-add}
use Rattle.bitmap.proofs.Masks.{little_part}
use Rattle.byteorder.specs.Endian.{little_from}
use Rattle.scan_base.specs.declared.value.Value.TheVariants.{Int, Null, Text}
use Rattle.group_slots.specs.TaggedValues.{low_bytes, value_tagged}
use Rattle.byteorder.specs.Numbers.{little_from-lt}

-- the elements from a place on begin with the element there
front : (i n : ℕ) (xs : List ℕ) → i < length xs → take (suc n) (drop i xs) ≡ slice_index xs i ∷ take n (drop (suc i) xs)
front zero n (x ∷ xs) low = refl
front (suc i) n (x ∷ xs) low = front i n xs (omega arith)
front i n [] low = absurd (omega arith)

-- bytes that were read as a number come back
back : (n i : ℕ) (xs : List ℕ) → ((k : ℕ) → slice_index xs k < 256) → i + n ≤ length xs → low_bytes n (little_from i n xs) ≡ take n (drop i xs)
back zero i xs bytes within = refl
back (suc n) i xs bytes within =
    let b = slice_index xs i in
    let rest = little_from (suc i) n xs in
    let low : (b + 256 * rest) % 256 ≡ b = omega (arith, bytes i) in
    let high : (b + 256 * rest) / 256 ≡ rest = omega (arith, bytes i) in
    rw (low, high) (ap (λ (ys : List ℕ). b ∷ ys) (back n (suc i) xs bytes (omega (arith, within))))
    ∙ sym (front i n xs (omega (arith, within)))

pub text_back : (i len : ℕ) (xs : List ℕ) → ((k : ℕ) → slice_index xs k < 256) → i + len ≤ length xs →
    low_bytes len (little_from i len xs) ≡ slice_range xs i (i + len)
text_back i len xs bytes within =
    let same : (i + len) - i ≡ len = omega arith in
    back len i xs bytes within ∙ sym (ap (λ (n : ℕ). take n (drop i xs)) same)

-- the lowest bytes of a number that was read are those of the first bytes
pub little_cut : (n m i : ℕ) (xs : List ℕ) → ((k : ℕ) → slice_index xs k < 256) → m ≤ n → little_from i n xs % 2 ^ (8 * m) ≡ little_from i m xs
little_cut n zero i xs bytes low = mod-one (little_from i n xs)
little_cut zero (suc m) i xs bytes low = absurd (omega (arith, low))
little_cut (suc n) (suc m) i xs bytes low =
    let b = slice_index xs i in
    let rest = little_from (suc i) n xs in
    let number = b + 256 * rest in
    let e : 8 * suc m ≡ 8 * m + 8 = omega arith in
    let lowest : number % 2 ^ 8 ≡ b = omega (arith, bytes i) in
    let high : number / 2 ^ 8 ≡ rest = omega (arith, bytes i) in
    let again : rest % 2 ^ (8 * m) ≡ little_from (suc i) m xs = little_cut n m (suc i) xs bytes (omega (arith, low)) in
    ap (λ (k : ℕ). number % 2 ^ k) e ∙ mod-pow-add number (8 * m) 8
    ∙ ap (λ (r : ℕ). (r % 2 ^ (8 * m)) * 2 ^ 8 + number % 2 ^ 8) high
    ∙ ap (λ (r : ℕ). r * 2 ^ 8 + number % 2 ^ 8) again
    ∙ ap (λ (z : ℕ). little_from (suc i) m xs * 2 ^ 8 + z) lowest
    ∙ omega arith

-- a number of fewer than eight bytes has room for one more
pub short_room : (i n : ℕ) (xs : List ℕ) → ((k : ℕ) → slice_index xs k < 256) → n ≤ 7 → little_from i n xs < 2 ^ 56
short_room i n xs bytes few =
    let below = little_from-lt i n xs bytes in
    let most : 256 ^ n ≤ 256 ^ 7 = pow-le-pow_right (omega arith) few in
    omega (arith, below, most)

-- a number that was read of eight bytes
pub word_cut : (i len : ℕ) (xs : List ℕ) (word : ℕ) → ((k : ℕ) → slice_index xs k < 256) → len ≤ 8 →
    word ≡ little_from 0 8 (take 8 (drop i xs)) → word % 2 ^ (8 * len) ≡ little_from i len xs
word_cut i len xs word bytes short is =
    ap (λ (w : ℕ). w % 2 ^ (8 * len)) (is ∙ little_part i 8 8 xs (omega arith)) ∙ little_cut 8 len i xs bytes short

-- the tag of a text of so many bytes
pub text_tagged : (i len : ℕ) (xs : List ℕ) (key : ℕ) → ((k : ℕ) → slice_index xs k < 256) → i + len ≤ length xs → key ≡ little_from i len xs →
    value_tagged (3 + len) key ≡ Text (slice_range xs i (i + len))
text_tagged i len xs key bytes within is =
    let no_null : (3 + len == 1) ≡ false = ne_eqb (3 + len) 1 (λ (e : 3 + len ≡ 1). omega arith) in
    let no_number : (3 + len == 2) ≡ false = ne_eqb (3 + len) 2 (λ (e : 3 + len ≡ 2). omega arith) in
    let same : (3 + len) - 3 ≡ len = omega arith in
    ap (λ (b : Bool). if b then Null else if (3 + len) == 2 then Int (cast_signed w64 key) else Text (low_bytes ((3 + len) - 3) key)) no_null
    ∙ ap (λ (b : Bool). if b then Int (cast_signed w64 key) else Text (low_bytes ((3 + len) - 3) key)) no_number
    ∙ ap (λ (n : ℕ). Text (low_bytes n key)) same
    ∙ ap (λ (k : ℕ). Text (low_bytes len k)) is
    ∙ ap (λ (bytes : List ℕ). Text bytes) (text_back i len xs bytes within)
