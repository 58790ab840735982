-- Looking a word up in a table, row by row.
use Rattle.std.proofs.Common.{◌≡◌, ◌≢◌, ◌<◌, ◌≤◌, ℕ, ◌+◌, ◌↔◌, Bool, true, false, cond, List, [], ◌∷◌, length, drop, get_or, Some, None, map, refl, ap, ◌∙◌, sym}
use Rattle.std.specs.Prelude.{IsTrue, ◌==◌, ◌&&◌, nat_le, filter}
use Rattle.std.specs.List.{list_all}
use Rattle.sql_text.specs.declared.token.TokenKind.{TokenKind}
use Rattle.std.specs.Char.{to_ascii_lowercase}
use Rattle.std.specs.Str.{str_eq_ignore_ascii_case}
use Rattle.std.proofs.lemmas.Bool.Decides.{same_from_decides}
use Rattle.std.proofs.lemmas.List.{at_drop_more}
use Rattle.std.proofs.lemmas.Slice.Eq.{bytes_eq-Decides}
use Rattle.std.proofs.lemmas.List.{length-map}
use Rattle.std.proofs.lemmas.Bool.{and_parts, eqb-false, leb-true}
use Rattle.std.specs.Cmp.Lexicographic.{unequal}
use Rattle.std.specs.Prelude.{nat_eq}
use Rattle.sql_text.specs.declared.word.Meaning.{Meaning}
use Rattle.sql_text.specs.Words.{meaning_in}
use Rattle.sql_text.specs.Calls.{rows_of}

-- the test of two words, by what the call says of it
abbrev Tests : Bool → List ℕ → List ℕ → Type 0
Tests test a b = IsTrue test ↔ (map to_ascii_lowercase a ≡ map to_ascii_lowercase b)

tested : (test : Bool) (a b : List ℕ) → Tests test a b → test ≡ str_eq_ignore_ascii_case a b
tested test a b h =
    same_from_decides test _ h (bytes_eq-Decides (map to_ascii_lowercase a) (map to_ascii_lowercase b))

row_more : (rows : List Meaning) (i : ℕ) (d : Meaning) (text : List ℕ) (test : Bool) → i < length rows
    → Tests test text (get_or rows i d).word.now
    → meaning_in (rows_of (drop i rows)) text ≡ cond test (Some (get_or rows i d).kind) (meaning_in (rows_of (drop (i + 1) rows)) text)
row_more rows i d text test lt h =
    at_drop_more (λ (r : List Meaning). meaning_in (rows_of r) text) rows i d lt
    ∙ ap (λ (b : Bool). cond b (Some (get_or rows i d).kind) (meaning_in (rows_of (drop (i + 1) rows)) text)) (sym (tested test text (get_or rows i d).word.now h))

pub row_has : (rows : List Meaning) (i : ℕ) (d : Meaning) (text : List ℕ) (test : Bool) → i < length rows
    → Tests test text (get_or rows i d).word.now → test ≡ true
    → meaning_in (rows_of (drop i rows)) text ≡ Some (get_or rows i d).kind
row_has rows i d text test lt h e = row_more rows i d text test lt h ∙ rw e refl

pub row_lacks : (rows : List Meaning) (i : ℕ) (d : Meaning) (text : List ℕ) (test : Bool) → i < length rows
    → Tests test text (get_or rows i d).word.now → test ≡ false
    → meaning_in (rows_of (drop i rows)) text ≡ meaning_in (rows_of (drop (i + 1) rows)) text
row_lacks rows i d text test lt h e = row_more rows i d text test lt h ∙ rw e refl

-- ---- rows of other lengths are passed over

other_length : (a b : List ℕ) → length a ≢ length b → str_eq_ignore_ascii_case a b ≡ false
other_length a b ne =
    unequal nat_eq (map to_ascii_lowercase a) (map to_ascii_lowercase b) (λ e. ne (sym (length-map a to_ascii_lowercase) ∙ e ∙ length-map b to_ascii_lowercase))

-- a word is looked for among those of its length alone
pub of_length : (rows : List (List ℕ × TokenKind)) (text : List ℕ) (n : ℕ) → length text ≡ n
    → meaning_in rows text ≡ meaning_in (filter (λ (row : List ℕ × TokenKind). length row.0 == n) rows) text
of_length [] text n e = refl
of_length (row ∷ rows) text n e = go (of_length rows text n e) (length row.0 == n) refl
  where
    rest : List (List ℕ × TokenKind)
    rest = filter (λ (r : List ℕ × TokenKind). length r.0 == n) rows

    go : meaning_in rows text ≡ meaning_in rest text → (b : Bool) → (length row.0 == n) ≡ b
        → meaning_in (row ∷ rows) text ≡ meaning_in (cond b (row ∷ rest) rest) text
    go more true h = ap (cond (str_eq_ignore_ascii_case text row.0) (Some row.1)) more
    go more false h =
        let f : str_eq_ignore_ascii_case text row.0 ≡ false = other_length text row.0 (λ same. absurd (eqb-false (length row.0) n h (sym same ∙ e))) in
        rw f more

-- a word of a length that none has has no meaning
pub of_no_length : (rows : List (List ℕ × TokenKind)) (text : List ℕ)
    → list_all (λ (row : List ℕ × TokenKind). nat_le 2 (length row.0) && nat_le (length row.0) 9) rows ≡ true
    → ((k : ℕ) → 2 ≤ k → k ≤ 9 → length text ≢ k)
    → meaning_in rows text ≡ None
of_no_length [] text short out = refl
of_no_length (row ∷ rows) text short out =
    let h = and_parts (nat_le 2 (length row.0) && nat_le (length row.0) 9) _ short in
    let k = and_parts (nat_le 2 (length row.0)) (nat_le (length row.0) 9) h.0 in
    let f : str_eq_ignore_ascii_case text row.0 ≡ false = other_length text row.0 (out (length row.0) (leb-true 2 (length row.0) k.0) (leb-true (length row.0) 9 k.1)) in
    rw f (of_no_length rows text h.1 out)
