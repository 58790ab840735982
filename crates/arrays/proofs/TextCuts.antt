-- Texts that are cut out of one text between its characters.
use Rattle.std.proofs.Common.{◌≡◌, ◌≤◌, ◌<◌, ◌^◌, ℕ, zero, suc, ◌+◌, ◌-◌, Bool, true, false, ◌||◌, List, length, take, drop, slice_range, slice_index, nat_le, nat_lt, inl, inr, refl, sym, ap, subst, arith, IsAscii, IsUtf8, IsCharBoundary}
use Rattle.std.proofs.lemmas.Bool.{cases_lt, le-leb, lt-ltb}
use Rattle.std.proofs.lemmas.List.{get_or_past, length-take, length-drop}
use Rattle.std.proofs.lemmas.Str.{IsUtf8-between, is_utf8-from_IsUtf8}
use Rattle.bytes.proofs.Ranges.{slice_range_within}
use Rattle.arrays.specs.Number.{element_at}
use Rattle.arrays.specs.Texts.{TextsAt, text_stands}
use Rattle.arrays.specs.inside.TextCuts.{OffsetsRise, LieWithin, CutBetweenCharacters, IsTextCut}

pub cut_long : (bytes : List ℕ) (first last : ℕ) → last ≤ length bytes → length (slice_range bytes first last) ≡ last - first
cut_long bytes first last within = omega (arith, length-take (last - first) (drop first bytes), length-drop first bytes)

-- a cut of UTF-8 from one character's start to another's is UTF-8
pub cut_is_utf8 : (bytes : List ℕ) (first last from to : ℕ) → first ≤ from → from ≤ to → to ≤ last → last ≤ length bytes →
    IsUtf8 (slice_range bytes first last) → IsCharBoundary (slice_range bytes first last) (from - first) → IsCharBoundary (slice_range bytes first last) (to - first) →
    IsUtf8 (slice_range bytes from to)
cut_is_utf8 bytes first last from to low order high within whole at_from at_to =
    let part = slice_range bytes first last in
    let long : length part ≡ last - first = cut_long bytes first last within in
    let same : slice_range bytes from to ≡ slice_range part (from - first) (to - first) =
    slice_range_within bytes part first from to (ap (λ (n : ℕ). take n (drop first bytes)) long) low order (omega (arith, long)) in
    subst IsUtf8 (sym same) (IsUtf8-between part (from - first) (to - first) whole (omega arith) at_from at_to)

-- numbers that never fall lie in order
in_order : (number : ℕ → ℕ) (len from n : ℕ) → ((k : ℕ) → k < len → number k ≤ number (k + 1)) → from + n ≤ len → number from ≤ number (from + n)
in_order number len from zero rise within = let e : from + 0 ≡ from = omega arith in rw e (omega arith)
in_order number len from (suc n) rise within =
    let e : from + suc n ≡ from + 1 + n = omega arith in
    rw e (omega (arith, rise from (omega arith), in_order number len (from + 1) n rise (omega arith)))

never_falls : (number : ℕ → ℕ) (len from to : ℕ) → ((k : ℕ) → k < len → number k ≤ number (k + 1)) → from ≤ to → to ≤ len → number from ≤ number to
never_falls number len from to rise order within =
    let e : from + (to - from) ≡ to = omega arith in
    rw e at (in_order number len from (to - from) rise (omega arith))

-- offsets that rise lie between the first and the last
pub lie_within : (offsets : List ℕ) (len : ℕ) → OffsetsRise offsets len → LieWithin offsets len (element_at 4 offsets 0) (element_at 4 offsets len)
lie_within offsets len rise place low =
    (never_falls (element_at 4 offsets) len 0 place rise (omega arith) low, never_falls (element_at 4 offsets) len place len rise low (omega arith))

-- all slots of data that is UTF-8, cut between characters
pub all_cut : (offsets bytes : List ℕ) (len : ℕ) → element_at 4 offsets len ≤ length bytes → element_at 4 offsets len < 2 ^ 31 → OffsetsRise offsets len →
    IsUtf8 (slice_range bytes (element_at 4 offsets 0) (element_at 4 offsets len)) →
    CutBetweenCharacters offsets len (element_at 4 offsets 0) (slice_range bytes (element_at 4 offsets 0) (element_at 4 offsets len)) →
    (place : ℕ) → place < len → IsTextCut offsets bytes place
all_cut offsets bytes len long short rise whole cuts place low =
    let here = lie_within offsets len rise place (omega arith) in
    let next = lie_within offsets len rise (place + 1) (omega arith) in
    record {
      ordered = rise place low;
      within = omega (arith, next.1, long);
      short = omega (arith, next.1, short);
      text = is_utf8-from_IsUtf8 _
          (cut_is_utf8 bytes _ _ (element_at 4 offsets place) (element_at 4 offsets (place + 1)) here.0 (rise place low) next.1 long whole (cuts place (omega arith)) (cuts (place + 1) (omega arith)));
    }

-- bytes are of ASCII where each one below their length is: past it stand zeros
pub all_ascii : (bytes : List ℕ) → ((place : ℕ) → place < length bytes → slice_index bytes place < 128) → IsAscii bytes
all_ascii bytes low place = elim (cases_lt place (length bytes)) [
  | inl within ↦ low place within
  | inr past ↦ rw (get_or_past bytes place 0 past) (omega arith)
]

-- bytes of ASCII are cut between characters anywhere
pub ascii_cut : (bytes : List ℕ) (place : ℕ) → IsAscii bytes → place ≤ length bytes → IsCharBoundary bytes place
ascii_cut bytes place ascii within = (within, λ _ high. absurd (omega (arith, ascii place, high)))

or_passes : (a b : Bool) → b ≡ true → (a || b) ≡ true
or_passes true b e = refl
or_passes false b e = e

-- a slot that is cut so stands
pub cut_stands : (cells : TextsAt) (place : ℕ) → IsTextCut cells.offsets cells.bytes place → text_stands cells place ≡ true
cut_stands cells place is =
    let within : nat_le (element_at 4 cells.offsets (place + 1)) (length cells.bytes) ≡ true = le-leb _ _ is.within in
    let small : nat_lt (element_at 4 cells.offsets (place + 1)) (2 ^ 31) ≡ true = lt-ltb _ _ is.short in
    let ordered : nat_le (element_at 4 cells.offsets place) (element_at 4 cells.offsets (place + 1)) ≡ true = le-leb _ _ is.ordered in
    rw (within, small, ordered) (or_passes _ _ is.text)
