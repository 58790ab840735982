-- The first bytes of a text, compared as a number.
use Rattle.std.proofs.Common.{◌≡◌, ℕ, zero, suc, ◌+◌, ◌-◌, ◌*◌, ◌%◌, ◌^◌, ◌<◌, ◌≤◌, ◌==◌, Bool, true, false, ◌&&◌, List, [], ◌∷◌, ◌++◌, length, get_or, take, drop, drop-cons, slice_index, inl, inr, refl, sym, ap, ◌∙◌, arith, length-drop}
use Rattle.std.specs.Str.{bytes_eq}
use Rattle.std.specs.List.{slice_range}
use Rattle.std.specs.Int.Bits.{bit_and}
use Rattle.std.proofs.lemmas.Bool.{cases_eq, eq-eqb, ne_eqb}
use Rattle.std.proofs.lemmas.Nat.{and_mask, pow-add}
use Rattle.std.proofs.lemmas.List.{take-append-drop, length-take-le, drop-drop}
use Rattle.std.proofs.Math.Seq.{take-add}
use Rattle.std.proofs.Math.Nat.{add-mul-mod_self_left, mul_assoc, mod-eq_of_lt, pow-le-pow_right}
use Rattle.byteorder.specs.Endian.{little_from}
use Rattle.byteorder.specs.Numbers.{little_from-lt}
use Rattle.kernels.specs.Needles.{front_len, IsFront}

digit_eq : (x y r s : ℕ) → x < 256 → y < 256 → (x + 256 * r == y + 256 * s) ≡ ((x == y) && (r == s))
digit_eq x y r s a b = elim (cases_eq x y) [
  | inl e ↦ elim (cases_eq r s) [
    | inl f ↦ rw (eq-eqb (x + 256 * r) (y + 256 * s) (omega (arith, e, f)), eq-eqb x y e, eq-eqb r s f) refl
    | inr g ↦ rw (ne_eqb (x + 256 * r) (y + 256 * s) (λ h. g (omega (arith, h, e))), eq-eqb x y e, ne_eqb r s g) refl
  ]
  | inr g ↦ rw (ne_eqb (x + 256 * r) (y + 256 * s) (λ h. g (omega (arith, h, a, b))), ne_eqb x y g) refl
]

-- numbers of bytes are equal where the bytes are
pub same_numbers : (k p q : ℕ) (xs ys : List ℕ) → ((i : ℕ) → slice_index xs i < 256) → ((i : ℕ) → slice_index ys i < 256) → p + k ≤ length xs → q + k ≤ length ys →
    (little_from p k xs == little_from q k ys) ≡ bytes_eq (take k (drop p xs)) (take k (drop q ys))
same_numbers zero p q xs ys hx hy a b = refl
same_numbers (suc k) p q xs ys hx hy a b =
    let e : drop p xs ≡ get_or xs p 0 ∷ drop (suc p) xs = drop-cons xs p 0 (omega arith) in
    let f : drop q ys ≡ get_or ys q 0 ∷ drop (suc q) ys = drop-cons ys q 0 (omega arith) in
    digit_eq (slice_index xs p) (slice_index ys q) (little_from (suc p) k xs) (little_from (suc q) k ys) (hx p) (hy q)
    ∙ ap (λ t. (slice_index xs p == slice_index ys q) && t) (same_numbers k (suc p) (suc q) xs ys hx hy (omega arith) (omega arith))
    ∙ sym (ap (λ l. bytes_eq (take (suc k) l) (take (suc k) (drop q ys))) e ∙ ap (λ l. bytes_eq (take (suc k) (get_or xs p 0 ∷ drop (suc p) xs)) (take (suc k) l)) f)

split_little : (k j p : ℕ) (xs : List ℕ) → little_from p (k + j) xs ≡ little_from p k xs + 256 ^ k * little_from (p + k) j xs
split_little zero j p xs =
    let e : p + 0 ≡ p = omega arith in
    let f : 0 + j ≡ j = omega arith in
    let g : little_from p j xs ≡ 0 + 256 ^ 0 * little_from p j xs = omega arith in
    ap (λ n. little_from p n xs) f ∙ g ∙ ap (λ q. 0 + 256 ^ 0 * little_from q j xs) (sym e)
split_little (suc k) j p xs =
    let n : suc k + j ≡ suc (k + j) = omega arith in
    let at : p + suc k ≡ suc p + k = omega arith in
    let ih = split_little k j (suc p) xs in
    let high : ℕ = little_from (suc p + k) j xs in
    let q : 256 ^ suc k ≡ 256 * 256 ^ k = omega arith in
    let m : 256 ^ suc k * high ≡ 256 * (256 ^ k * high) = ap (λ x. x * high) q ∙ mul_assoc 256 (256 ^ k) high in
    let main : slice_index xs p + 256 * little_from (suc p) (k + j) xs ≡ slice_index xs p + 256 * little_from (suc p) k xs + 256 ^ suc k * high = omega (arith, ih, m) in
    ap (λ x. little_from p x xs) n ∙ main ∙ ap (λ a. little_from p (suc k) xs + 256 ^ suc k * little_from a j xs) (sym at)

low_little : (k p : ℕ) (xs : List ℕ) → ((i : ℕ) → slice_index xs i < 256) → k ≤ 8 → little_from p 8 xs % 256 ^ k ≡ little_from p k xs
low_little k p xs h le =
    let e : k + (8 - k) ≡ 8 = omega arith in
    ap (λ n. little_from p n xs % 256 ^ k) (sym e) ∙ ap (λ x. x % 256 ^ k) (split_little k (8 - k) p xs)
    ∙ add-mul-mod_self_left (little_from p k xs) (256 ^ k) (little_from (p + k) (8 - k) xs) ∙ mod-eq_of_lt (little_from-lt p k xs h)

pub pow_bytes : (k : ℕ) → 2 ^ (8 * k) ≡ 256 ^ k
pow_bytes zero = omega arith
pow_bytes (suc k) =
    let e : 8 * suc k ≡ 8 + 8 * k = omega arith in
    let q : 2 ^ 8 * 256 ^ k ≡ 256 ^ suc k = omega arith in
    ap (λ n. 2 ^ n) e ∙ pow-add 2 8 (8 * k) ∙ ap (λ x. 2 ^ 8 * x) (pow_bytes k) ∙ q

-- the lowest bytes of eight, by a mask
masked : (mask k p : ℕ) (xs : List ℕ) → ((i : ℕ) → slice_index xs i < 256) → k ≤ 8 → mask + 1 ≡ 256 ^ k → bit_and (little_from p 8 xs) mask ≡ little_from p k xs
masked mask k p xs h le is =
    let m : mask ≡ 2 ^ (8 * k) - 1 = omega (arith, pow_bytes k, is) in
    ap (bit_and (little_from p 8 xs)) m ∙ and_mask (little_from p 8 xs) (8 * k) ∙ ap (λ x. little_from p 8 xs % x) (pow_bytes k) ∙ low_little k p xs h le

-- the masked number of eight bytes is the front just where the bytes are
pub front_same : (text bytes : List ℕ) (front mask at : ℕ) → IsFront text front mask → ((i : ℕ) → slice_index bytes i < 256) → at + 8 ≤ length bytes →
    (bit_and (little_from at 8 bytes) mask == front) ≡ bytes_eq (slice_range bytes at (at + front_len text)) (take (front_len text) text)
front_same text bytes front mask at is hb room =
    let k : ℕ = front_len text in
    let few : k ≤ 8 = omega arith in
    let all : k ≤ length text = omega arith in
    let n : at + k - at ≡ k = omega arith in
    ap (λ x. x == front) (masked mask k at bytes hb few is.ones) ∙ ap (λ x. little_from at k bytes == x) is.number
    ∙ same_numbers k at 0 bytes text hb is.bytes (omega (arith, few, room)) (omega (arith, all)) ∙ ap (λ m. bytes_eq (take m (drop at bytes)) (take k text)) (sym n)

and_assoc : (a b c : Bool) → (a && (b && c)) ≡ ((a && b) && c)
and_assoc true b c = refl
and_assoc false b c = refl

split_eq : (xs ys us vs : List ℕ) → length xs ≡ length us → bytes_eq (xs ++ ys) (us ++ vs) ≡ (bytes_eq xs us && bytes_eq ys vs)
split_eq [] ys [] vs e = refl
split_eq [] ys (u ∷ us) vs e = absurd (omega (arith, e))
split_eq (x ∷ xs) ys [] vs e = absurd (omega (arith, e))
split_eq (x ∷ xs) ys (u ∷ us) vs e = ap (λ b. (x == u) && b) (split_eq xs ys us vs (omega (arith, e))) ∙ and_assoc (x == u) (bytes_eq xs us) (bytes_eq ys vs)

-- the front and the rest
pub parts_same : (text bytes : List ℕ) (at : ℕ) → at + length text ≤ length bytes →
    (bytes_eq (slice_range bytes at (at + front_len text)) (take (front_len text) text)
    && bytes_eq (slice_range bytes (at + front_len text) (at + length text)) (drop (front_len text) text))
    ≡ bytes_eq (slice_range bytes at (at + length text)) text
parts_same text bytes at room =
    let k : ℕ = front_len text in
    let n : ℕ = length text in
    let few : k ≤ n = omega arith in
    let some : ℕ = n - k in
    let a : List ℕ = drop at bytes in
    let long : k ≤ length a = omega (arith, length-drop at bytes, room, few) in
    let e1 : at + n - at ≡ k + some = omega (arith, few) in
    let e3 : at + k - at ≡ k = omega arith in
    let e4 : at + n - (at + k) ≡ some = omega arith in
    let sizes : length (take k a) ≡ length (take k text) = length-take-le k a long ∙ sym (length-take-le k text few) in
    sym (ap (λ m. bytes_eq (take m a) text) e1
    ∙ ap (λ l. bytes_eq l text) (take-add k some a)
    ∙ ap (λ l. bytes_eq (take k a ++ take some l) text) (drop-drop k at bytes)
    ∙ ap (λ l. bytes_eq (take k a ++ take some (drop (at + k) bytes)) l) (sym (take-append-drop k text))
    ∙ split_eq (take k a) (take some (drop (at + k) bytes)) (take k text) (drop k text) sizes
    ∙ ap (λ m. bytes_eq (take m a) (take k text) && bytes_eq (take some (drop (at + k) bytes)) (drop k text)) (sym e3)
    ∙ ap (λ m. bytes_eq (take (at + k - at) a) (take k text) && bytes_eq (take m (drop (at + k) bytes)) (drop k text)) (sym e4))

-- a number of few bytes has room for one more
pub little_room : (p n : ℕ) (xs : List ℕ) → ((k : ℕ) → slice_index xs k < 256) → n ≤ 7 → little_from p n xs < 2 ^ 56
little_room p n xs bytes few =
    let below = little_from-lt p n xs bytes in
    let most : 256 ^ n ≤ 256 ^ 7 = pow-le-pow_right (omega arith) few in
    omega (arith, below, most)

-- ---- the front of a text that is made

pub short_front : (text : List ℕ) (front mask : ℕ) → length text < 8 → ((k : ℕ) → slice_index text k < 256) → front ≡ little_from 0 (length text) text → mask + 1 ≡ 2 ^ (8 * length text) →
    IsFront text front mask
short_front text front mask few bytes is ones =
    let k : length text ≡ front_len text = omega (arith, few) in
    record {
      number = is ∙ ap (λ n. little_from 0 n text) k;
      bytes = bytes;
      ones = ones ∙ pow_bytes (length text) ∙ ap (λ n. 256 ^ n) k;
    }

pub long_front : (text : List ℕ) (front : ℕ) → 8 ≤ length text → ((k : ℕ) → slice_index text k < 256) → front ≡ little_from 0 8 text → IsFront text front 18446744073709551615
long_front text front many bytes is =
    let k : 8 ≡ front_len text = omega (arith, many) in
    record {
      number = is ∙ ap (λ n. little_from 0 n text) k;
      bytes = bytes;
      ones = ap (λ n. 256 ^ n) k;
    }
