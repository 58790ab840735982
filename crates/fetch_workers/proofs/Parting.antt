-- Parts of batches follow one another, from the first batch to the last.
use Rattle.std.proofs.Common.{◌≡◌, ◌≤◌, ◌<◌, ℕ, zero, suc, ◌+◌, ◌/◌, arith}
use Rattle.std.proofs.Math.Nat.{div-add-mod}
use Rattle.std.proofs.lemmas.Nat.{mod_below, mul-le}
use Rattle.fetch_workers.specs.Parts.{batches_before}

-- no batch stands before the first part
pub none_before : (batches parts : ℕ) → batches_before batches parts 0 ≡ 0
none_before batches parts = omega arith

-- each part ends after its begin
pub before_next : (batches parts number : ℕ) → batches_before batches parts number ≤ batches_before batches parts (number + 1)
before_next batches parts number =
    let wide = mul-le number (batches / parts) (number + 1) (batches / parts) (omega arith) (omega arith) in
    omega (arith, wide)

-- before the end stand all batches, where there is a part if there is a batch
pub all_before : (batches parts : ℕ) → (0 < batches → 0 < parts) → batches_before batches parts parts ≡ batches
all_before zero zero some = omega arith
all_before (suc batches) zero some = omega (arith, some (omega arith))
all_before batches (suc parts) some =
    let rest = mod_below batches (suc parts) (omega arith) in
    omega (arith, div-add-mod batches (suc parts), rest)
