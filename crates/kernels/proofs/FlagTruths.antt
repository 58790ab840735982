-- What a comparison says of truth values.
use Rattle.std.proofs.Common.{◌≡◌, ℕ, ◌<◌, Bool, true, false, not, if◌then◌else◌, refl, sym, ap, ◌∙◌}
use Rattle.std.specs.Int.RustNames.{bit_xor}
use Rattle.std.specs.Ordering.{bool_cmp}
use Rattle.scan_base.specs.declared.comparison.Comparison.{Comparison}
use Rattle.scan_base.specs.declared.value.Value.TheVariants.{Null, Bool as Flag}
use Rattle.scan_base.specs.Truth.{truth_from}
use Rattle.scan_base.specs.Comparison.{compared, satisfies}
use Rattle.kernels.specs.Ranges.{where_known}
use Rattle.kernels.specs.Words.{bit}
use Rattle.kernels.proofs.Bits.{xor, xor_bit, xor_true, bit_of_all}

chosen_true : (b one zero : Bool) → one ≡ true → zero ≡ true → true ≡ (if b then one else zero)
chosen_true true one zero e f = sym e
chosen_true false one zero e f = sym f

pub all_bits : (word row : ℕ) (one zero : Bool) → row < 64 → one ≡ true → zero ≡ true → bit 18446744073709551615 row ≡ (if bit word row then one else zero)
all_bits word row one zero lt e f = bit_of_all row lt ∙ chosen_true (bit word row) one zero e f

chosen_turned : (b one zero : Bool) → one ≡ false → zero ≡ true → not b ≡ (if b then one else zero)
chosen_turned true one zero e f = sym e
chosen_turned false one zero e f = sym f

pub turned_bits : (word row : ℕ) (one zero : Bool) → row < 64 → one ≡ false → zero ≡ true → bit (bit_xor word 18446744073709551615) row ≡ (if bit word row then one else zero)
turned_bits word row one zero lt e f =
    xor_bit word 18446744073709551615 row ∙ ap (λ b. xor (bit word row) b) (bit_of_all row lt) ∙ xor_true (bit word row) ∙ chosen_turned (bit word row) one zero e f

-- what is said of a slot
pub flag_slot : (comparison : Comparison) (known flag other of_true of_false : Bool) → of_true ≡ satisfies comparison (bool_cmp true other) → of_false ≡ satisfies comparison (bool_cmp false other) →
    where_known known (if flag then of_true else of_false) ≡ compared comparison (if known then Flag flag else Null) (Flag other)
flag_slot comparison true true other of_true of_false e f = ap truth_from e
flag_slot comparison true false other of_true of_false e f = ap truth_from f
flag_slot comparison false flag other of_true of_false e f = refl
