-- Zeros after a buffer.
use Rattle.std.proofs.Common.{◌≡◌, ◌≤◌, ℕ, zero, suc, List, [], ◌∷◌, ◌++◌, length, take, replicate, refl, ap, ◌∙◌, append_assoc, append-nil, arith}
use Rattle.std.specs.List.{flat_map}
use Rattle.std.proofs.lemmas.Grind.{flat_map-append}
use Rattle.flatbuf.specs.Block.{padding, padded}

-- the first of some zeros are zeros
pub zeros_taken : (z n : ℕ) → z ≤ n → take {A = ℕ} z (replicate n 0) ≡ replicate z 0
zeros_taken zero n low = refl
zeros_taken (suc z) zero low = absurd (omega (arith, low))
zeros_taken (suc z) (suc n) low = ap (λ (l : List ℕ). 0 ∷ l) (zeros_taken z n (omega (arith, low)))

-- a buffer and its zeros after other parts
pub parts_padded : (parts : List (List ℕ)) (buffer zeros : List ℕ) (new : List (List ℕ)) → new ≡ (parts ++ buffer ∷ []) ++ zeros ∷ [] → zeros ≡ padding (length buffer)
    → flat_map (λ part. part) new ≡ flat_map (λ part. part) parts ++ padded buffer
parts_padded parts buffer zeros new pushed is =
    ap (flat_map (λ part. part)) pushed
    ∙ flat_map-append (λ part. part) (parts ++ buffer ∷ []) (zeros ∷ [])
    ∙ ap (λ (l : List ℕ). l ++ (zeros ++ [])) (flat_map-append (λ part. part) parts (buffer ∷ []))
    ∙ append_assoc (flat_map (λ part. part) parts) (buffer ++ []) (zeros ++ [])
    ∙ ap (λ (l : List ℕ). flat_map (λ part. part) parts ++ (l ++ (zeros ++ []))) (append-nil buffer)
    ∙ ap (λ (l : List ℕ). flat_map (λ part. part) parts ++ (buffer ++ l)) (append-nil zeros ∙ is)

-- one that needs none
pub part_padded : (parts : List (List ℕ)) (buffer : List ℕ) (new : List (List ℕ)) → new ≡ parts ++ buffer ∷ [] → [] ≡ padding (length buffer)
    → flat_map (λ part. part) new ≡ flat_map (λ part. part) parts ++ padded buffer
part_padded parts buffer new pushed none =
    ap (flat_map (λ part. part)) pushed
    ∙ flat_map-append (λ part. part) parts (buffer ∷ [])
    ∙ ap (λ (l : List ℕ). flat_map (λ part. part) parts ++ (buffer ++ l)) none
