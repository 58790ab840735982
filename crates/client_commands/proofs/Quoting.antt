-- A name between quotes, piece by piece.
use Rattle.std.proofs.Common.{◌≡◌, ◌≢◌, ap, refl, ◌<◌, ℕ, suc, List, [], ◌∷◌, ◌++◌, length, get_or, arith, append_assoc, ne_eqb, eq-eqb}
use Rattle.std.specs.List.{flat_map}
use Rattle.sql_text.specs.Values.{doubled}

-- no byte of a piece is a quote
abbrev pub Lacks : ℕ → List ℕ → Type 0
Lacks quote text = (i : ℕ) → i < length text → get_or text i 0 ≢ quote

-- a piece without a quote stands as it is
pub none_doubled : (quote : ℕ) (text : List ℕ) → Lacks quote text → flat_map (doubled quote) text ≡ text
none_doubled quote [] none = refl
none_doubled quote (b ∷ text) none =
    rw (ne_eqb b quote (none 0 (omega arith))) (ap (λ l. b ∷ l) (none_doubled quote text (λ i less. none (suc i) (omega arith))))

-- up to the first quote, and after it
pub first_doubled : (quote : ℕ) (front rest : List ℕ) → Lacks quote front → flat_map (doubled quote) (front ++ quote ∷ rest) ≡ front ++ quote ∷ quote ∷ flat_map (doubled quote) rest
first_doubled quote [] rest none = rw (eq-eqb quote quote refl) refl
first_doubled quote (b ∷ front) rest none =
    rw (ne_eqb b quote (none 0 (omega arith))) (ap (λ l. b ∷ l) (first_doubled quote front rest (λ i less. none (suc i) (omega arith))))

-- a piece and two quotes were written
pub pair_written : (quote : ℕ) (text text' text'' front rest end whole : List ℕ) → text' ≡ text ++ front → text'' ≡ text' ++ quote ∷ quote ∷ []
    → text ++ ((front ++ quote ∷ quote ∷ rest) ++ end) ≡ whole → text'' ++ (rest ++ end) ≡ whole
pair_written quote text text' text'' front rest end whole first second all =
    rw (second, first, append_assoc (text ++ front), append_assoc text) (rw (append_assoc front) at all)

-- the last piece and the quote after it were written
pub end_written : (text text' text'' rest end whole : List ℕ) → text' ≡ text ++ rest → text'' ≡ text' ++ end → text ++ (rest ++ end) ≡ whole → text'' ≡ whole
end_written text text' text'' rest end whole first second all = rw (second, first, append_assoc text) all
