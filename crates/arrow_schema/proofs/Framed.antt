-- A header in IPC form.
use Rattle.std.proofs.Common.{◌≡◌, ◌≤◌, ℕ, zero, suc, ◌+◌, ◌-◌, ◌%◌, List, ◌∷◌, ◌++◌, length, replicate, refl, arith, take, ap, ◌∙◌}
use Rattle.std.proofs.lemmas.List.{length-append, length-replicate}
use Rattle.std.specs.Int.{w32, to_le_bytes}
use Rattle.flatbuf.specs.Block.{little, padding, padded}
use Rattle.flatbuf.proofs.Standing.{length-little, length_padding, length_padded}
use Rattle.arrow_schema.specs.WrittenHeader.{encapsulated}

-- how long a header with its zeros is
pub length_header : (header : List ℕ) → length (padded header) ≡ length header + (8 - length header % 8) % 8
length_header header = let a = length-append header (padding (length header)) in let b = length_padding (length header) in omega arith

pub whole_frame : (header : List ℕ) → length (encapsulated header) % 8 ≡ 0
unfolding encapsulated
whole_frame header =
    let a = length-append (replicate 4 255) (little 4 (length (padded header)) ++ padded header) in
    let b = length-append (little 4 (length (padded header))) (padded header) in
    let c = length-little 4 (length (padded header)) in
    let d = length_padded header in
    let e = length-replicate {A = ℕ} 4 255 in
    omega arith

take_zeros : (n k : ℕ) → n ≤ k → take {A = ℕ} n (replicate k 0) ≡ replicate n 0
take_zeros zero k le = refl
take_zeros (suc n) zero le = absurd (omega arith)
take_zeros (suc n) (suc k) le = ap (λ (xs : List ℕ). 0 ∷ xs) (take_zeros n k (omega arith))

-- the bytes as they are written
pub frame_is : (header out : List ℕ) → out ≡ ((replicate 4 255 ++ to_le_bytes w32 (length header + (8 - length header % 8) % 8)) ++ header) ++ take ((8 - length header % 8) % 8) (replicate 8 0) → out ≡ encapsulated header
unfolding encapsulated padding little
frame_is header out e =
    let zeros = (8 - length header % 8) % 8 in
    e ∙ rw (← length_header header, take_zeros zeros 8 (omega arith)) refl

pub ruleset framing = (length_header, whole_frame)
