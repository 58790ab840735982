-- Words of texts that are compared with one, bit by bit.
use Rattle.std.proofs.Common.{◌≡◌, ℕ, ◌+◌, ◌*◌, ◌%◌, ◌^◌, ◌<◌, ◌==◌, Bool, true, false, List, length, inl, inr, sym, ap, ◌∙◌, arith}
use mir.Val.{bool_byte}
use Rattle.std.specs.Int.{w64, bit_not, trailing_zeros}
use Rattle.std.specs.Int.Bits.{bit_and}
use Rattle.std.specs.Int.RustNames.{bit_or}
use Rattle.std.proofs.lemmas.Bool.{cases_eq, eqb-true}
use Rattle.std.proofs.lemmas.Nat.{and_le_l}
use Rattle.std.proofs.lemmas.Nat.Bits.{bit_at-trailing_zeros}
use Rattle.kernels.specs.Words.{bit}
use Rattle.kernels.specs.TextTests.{cut_at, is_text_at}
use Rattle.kernels.proofs.Bits.{bit_of_none}
use Rattle.kernels.proofs.BitSteps.{put_same, put_other, clear_same, clear_other}
use Rattle.kernels.proofs.TextCuts.{other_length}

-- The bits that are left are of texts as long, which are not looked at yet; of all others it is known whether they are the text.
pub record IsHalfway (text offsets bytes : List ℕ) (from left equal : ℕ) : Type 0 where
  pub done : (row : ℕ) → row < 64 → bit left row ≡ false → bit equal row ≡ is_text_at text offsets bytes (from + row)
  pub ahead : (row : ℕ) → row < 64 → bit left row ≡ true → bit equal row ≡ false
  pub long : (row : ℕ) → row < 64 → bit left row ≡ true → length (cut_at offsets bytes (from + row)) ≡ length text

pub at_first : (text offsets bytes : List ℕ) (from long : ℕ) → ((row : ℕ) → row < 64 → bit long row ≡ (length (cut_at offsets bytes (from + row)) == length text)) →
    IsHalfway text offsets bytes from long 0
at_first text offsets bytes from long is = record {
  done = λ row lt off. bit_of_none row ∙ other_length (cut_at offsets bytes (from + row)) text (sym (is row lt) ∙ off);
  ahead = λ row lt on. bit_of_none row;
  long = λ row lt on. eqb-true (length (cut_at offsets bytes (from + row))) (length text) (sym (is row lt) ∙ on);
}

-- the lowest bit
pub lowest_place : (left : ℕ) → 0 < left → left < 2 ^ 64 → trailing_zeros w64 left < 64
lowest_place left some fits = (bit_at-trailing_zeros w64 left some fits).0

pub lowest_on : (left : ℕ) → 0 < left → left < 2 ^ 64 → bit left (trailing_zeros w64 left) ≡ true
lowest_on left some fits = ap (λ x. x == 1) (bit_at-trailing_zeros w64 left some fits).1

pub fewer : (left row : ℕ) → row < 64 → bit left row ≡ true → bit_and left (bit_not w64 (1 * 2 ^ row % 2 ^ 64)) < left
fewer left row lt on =
    let m : ℕ = bit_not w64 (1 * 2 ^ row % 2 ^ 64) in
    elim (cases_eq (bit_and left m) left) [
      | inl same ↦ absurd (let no : true ≡ false = sym on ∙ ap (λ n. bit n row) (sym same) ∙ clear_same left row lt in cc)
      | inr other ↦ omega (arith, other, and_le_l left m)
    ]

-- one text more
pub one_more : (text offsets bytes : List ℕ) (from left equal row : ℕ) (passes : Bool) → row < 64 → bit left row ≡ true → passes ≡ is_text_at text offsets bytes (from + row) →
    IsHalfway text offsets bytes from left equal →
    IsHalfway text offsets bytes from (bit_and left (bit_not w64 (1 * 2 ^ row % 2 ^ 64))) (bit_or equal (bool_byte passes * 2 ^ row % 2 ^ 64))
one_more text offsets bytes from left equal row passes lt on is had = record {
  done = λ r few off. elim (cases_eq r row) [
    | inl same ↦ ap (bit (bit_or equal (bool_byte passes * 2 ^ row % 2 ^ 64))) same ∙ put_same equal row passes lt (had.ahead row lt on) ∙ is
        ∙ ap (λ n. is_text_at text offsets bytes (from + n)) (sym same)
    | inr other ↦ put_other equal row r passes lt other ∙ had.done r few (sym (clear_other left row r lt few other) ∙ off)
  ];
  ahead = λ r few there. elim (cases_eq r row) [
    | inl same ↦ absurd (let no : true ≡ false = sym there ∙ ap (bit (bit_and left (bit_not w64 (1 * 2 ^ row % 2 ^ 64)))) same ∙ clear_same left row lt in cc)
    | inr other ↦ put_other equal row r passes lt other ∙ had.ahead r few (sym (clear_other left row r lt few other) ∙ there)
  ];
  long = λ r few there. elim (cases_eq r row) [
    | inl same ↦ absurd (let no : true ≡ false = sym there ∙ ap (bit (bit_and left (bit_not w64 (1 * 2 ^ row % 2 ^ 64)))) same ∙ clear_same left row lt in cc)
    | inr other ↦ had.long r few (sym (clear_other left row r lt few other) ∙ there)
  ];
}

pub at_last : (text offsets bytes : List ℕ) (from left equal : ℕ) → left ≡ 0 → IsHalfway text offsets bytes from left equal →
    (row : ℕ) → row < 64 → bit equal row ≡ is_text_at text offsets bytes (from + row)
at_last text offsets bytes from left equal none had row lt = had.done row lt (ap (λ n. bit n row) none ∙ bit_of_none row)
