-- One truth of all rows.
use Rattle.std.proofs.Common.{◌≡◌, ℕ, zero, suc, ◌+◌, ◌*◌, ◌/◌, ◌%◌, ◌<◌, ◌≤◌, List, ◌∷◌, map, get_or, replicate, refl, sym, ap, ◌∙◌, arith}
use Rattle.std.specs.List.{range_with_len}
use Rattle.std.proofs.lemmas.List.{get_or-replicate}
use Rattle.scan_base.specs.declared.truth.Truth.{Truth}
use Rattle.kernels.specs.declared.word.Word.{Word}
use Rattle.kernels.specs.Words.{row_in, row_among, rows_of, blank}

-- what a test says, where it says the same of each place
pub said_alike : (test : ℕ → Truth) (truth : Truth) (from len : ℕ) → ((i : ℕ) → i < len → test (from + i) ≡ truth) → replicate len truth ≡ map test (range_with_len from len)
said_alike test truth from zero e = refl
said_alike test truth from (suc len) e =
    let z : from + 0 ≡ from = omega arith in
    let first : truth ≡ test from = sym (e 0 (omega arith)) ∙ ap test z in
    ap (λ t. t ∷ replicate len truth) first
    ∙ ap (λ ts. test from ∷ ts) (said_alike test truth (from + 1) len (λ i lt.
    let p : from + 1 + i ≡ from + suc i = omega arith in
    ap test p ∙ e (suc i) (omega (arith, lt))))

-- the rows of one word that stands again and again
pub rows_alike : (words : List Word) (word : Word) (truth : Truth) (count len : ℕ) → words ≡ replicate count word → len ≤ 64 * count →
    ((row : ℕ) → row < 64 → row_in word row ≡ truth) → rows_of words len ≡ replicate len truth
unfolding rows_of
rows_alike words word truth count len is room same =
    sym (said_alike (row_among words) truth 0 len (λ i lt.
    ap (λ ws. row_in (get_or ws ((0 + i) / 64) blank) ((0 + i) % 64)) is
    ∙ ap (λ w. row_in w ((0 + i) % 64)) (get_or-replicate count ((0 + i) / 64) word blank (omega (arith, lt, room)))
    ∙ same ((0 + i) % 64) (omega arith)))
