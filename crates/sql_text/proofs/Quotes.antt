-- What stands between quotes, read byte by byte.
use Rattle.std.proofs.Common.{◌≡◌, ◌≢◌, ◌<◌, ◌≤◌, ℕ, ◌+◌, Bool, true, false, List, [], ◌∷◌, length, drop, get_or, Some, None, refl, ap, arith}
use Rattle.std.specs.Prelude.{◌==◌}
use Rattle.std.proofs.Common.{cond, ◌++◌}
use Rattle.std.specs.List.{flat_map}
use Rattle.std.proofs.lemmas.Bool.{eq-eqb, ne_eqb, eqb-true, eqb-false}
use Rattle.sql_text.specs.Values.{doubled}
use Rattle.std.proofs.lemmas.List.{drop_more}
use Rattle.sql_text.specs.Reading.{closed_at}

-- a byte that is no quote
plain : (quote at b : ℕ) (bytes : List ℕ) → (b == quote) ≡ false → closed_at quote at (b ∷ bytes) ≡ closed_at quote (at + 1) bytes
plain quote at b [] e = rw e refl
plain quote at b (c ∷ bytes) e = rw e refl

pub closed_plain : (quote at : ℕ) (bytes : List ℕ) → at < length bytes → get_or bytes at 0 ≢ quote
    → closed_at quote at (drop at bytes) ≡ closed_at quote (at + 1) (drop (at + 1) bytes)
closed_plain quote at bytes lt ne =
    rw (drop_more bytes at 0 lt) (plain quote at (get_or bytes at 0) (drop (at + 1) bytes) (ne_eqb (get_or bytes at 0) quote ne))

-- two quotes
pub closed_pair : (quote at : ℕ) (bytes : List ℕ) → at + 1 < length bytes → get_or bytes at 0 ≡ quote → get_or bytes (at + 1) 0 ≡ quote
    → closed_at quote at (drop at bytes) ≡ closed_at quote (at + 2) (drop (at + 2) bytes)
closed_pair quote at bytes lt first second =
    let again : (at + 1) + 1 ≡ at + 2 = omega arith in
    rw (drop_more bytes at 0 (omega arith), drop_more bytes (at + 1) 0 lt, eq-eqb (get_or bytes at 0) quote first, eq-eqb (get_or bytes (at + 1) 0) quote second, again) refl

-- ---- where a quote closes, and where none does

-- the list does not begin with this byte
abbrev pub Parts : ℕ → List ℕ → Type 0
Parts quote [] = Unit {0}
Parts quote (b ∷ bytes) = b ≢ quote

-- so many bytes up to the quote that closes, where `at` stand before: a value and a quote, and no quote after
pub record Closed (quote at : ℕ) (bytes : List ℕ) (len : ℕ) : Type 0 where
  pub value : List ℕ
  pub rest : List ℕ
  pub whole : bytes ≡ flat_map (doubled quote) value ++ (quote ∷ rest)
  pub parts : Parts quote rest
  pub len_is : len ≡ at + (length (flat_map (doubled quote) value) + 1)

doubled_quote : (quote b : ℕ) → b ≡ quote → doubled quote b ≡ quote ∷ quote ∷ []
doubled_quote quote b e = rw (eq-eqb b quote e) refl

doubled_other : (quote b : ℕ) → (b == quote) ≡ false → doubled quote b ≡ b ∷ []
doubled_other quote b e = rw e refl

ends : (quote at b : ℕ) (rest : List ℕ) (len : ℕ) → b ≡ quote → Parts quote rest → Some (at + 1) ≡ Some len → Closed quote at (b ∷ rest) len
ends quote at b rest len e p found = record {
  value = [];
  rest = rest;
  whole = ap (λ (x : ℕ). x ∷ rest) e;
  parts = p;
  len_is = cc;
}

pair_before : (quote at b c : ℕ) (bytes : List ℕ) (len : ℕ) → b ≡ quote → c ≡ quote → Closed quote (at + 2) bytes len → Closed quote at (b ∷ c ∷ bytes) len
pair_before quote at b c bytes len e f h = record {
  value = quote ∷ h.value;
  rest = h.rest;
  whole = rw (doubled_quote quote quote refl, e, f, ← h.whole) refl;
  parts = h.parts;
  len_is = rw (doubled_quote quote quote refl) (omega (arith, h.len_is));
}

plain_before : (quote at b : ℕ) (bytes : List ℕ) (len : ℕ) → (b == quote) ≡ false → Closed quote (at + 1) bytes len → Closed quote at (b ∷ bytes) len
plain_before quote at b bytes len e h = record {
  value = b ∷ h.value;
  rest = h.rest;
  whole = rw (doubled_other quote b e, ← h.whole) refl;
  parts = h.parts;
  len_is = rw (doubled_other quote b e) (omega (arith, h.len_is));
}

pub closed_of : (quote at : ℕ) (bytes : List ℕ) (len : ℕ) → closed_at quote at bytes ≡ Some len → Closed quote at bytes len
closed_of quote at [] len found = absurd cc
closed_of quote at (b ∷ []) len found = go (b == quote) refl found
  where
    go : (x : Bool) → (b == quote) ≡ x → cond x (Some (at + 1)) None ≡ Some len → Closed quote at (b ∷ []) len
    go true e found = ends quote at b [] len (eqb-true b quote e) tt found
    go false e found = absurd cc
closed_of quote at (b ∷ c ∷ bytes) len found = go (closed_of quote (at + 2) bytes len) (closed_of quote (at + 1) (c ∷ bytes) len) (b == quote) (c == quote) refl refl found
  where
    go : (closed_at quote (at + 2) bytes ≡ Some len → Closed quote (at + 2) bytes len) → (closed_at quote (at + 1) (c ∷ bytes) ≡ Some len → Closed quote (at + 1) (c ∷ bytes) len)
        → (x y : Bool) → (b == quote) ≡ x → (c == quote) ≡ y
        → cond x (cond y (closed_at quote (at + 2) bytes) (Some (at + 1))) (closed_at quote (at + 1) (c ∷ bytes)) ≡ Some len → Closed quote at (b ∷ c ∷ bytes) len
    go two one true true e f found = pair_before quote at b c bytes len (eqb-true b quote e) (eqb-true c quote f) (two found)
    go two one true false e f found = ends quote at b (c ∷ bytes) len (eqb-true b quote e) (eqb-false c quote f) found
    go two one false y e f found = plain_before quote at b (c ∷ bytes) len e (one found)

-- no quote closes
unfoldable pub Open : ℕ → List ℕ → Type 0
Open quote bytes = (value : List ℕ) × (bytes ≡ flat_map (doubled quote) value)

pub open_of : (quote at : ℕ) (bytes : List ℕ) → closed_at quote at bytes ≡ None → Open quote bytes
unfolding Open
open_of quote at [] found = ([], refl)
open_of quote at (b ∷ []) found = go (b == quote) refl found
  where
    go : (x : Bool) → (b == quote) ≡ x → cond x (Some (at + 1)) None ≡ None → Open quote (b ∷ [])
    go true e found = absurd cc
    go false e found = (b ∷ [], rw (doubled_other quote b e) refl)
open_of quote at (b ∷ c ∷ bytes) found = go (open_of quote (at + 2) bytes) (open_of quote (at + 1) (c ∷ bytes)) (b == quote) (c == quote) refl refl found
  where
    go : (closed_at quote (at + 2) bytes ≡ None → Open quote bytes) → (closed_at quote (at + 1) (c ∷ bytes) ≡ None → Open quote (c ∷ bytes))
        → (x y : Bool) → (b == quote) ≡ x → (c == quote) ≡ y
        → cond x (cond y (closed_at quote (at + 2) bytes) (Some (at + 1))) (closed_at quote (at + 1) (c ∷ bytes)) ≡ None → Open quote (b ∷ c ∷ bytes)
    go two one true true e f found =
        let h = two found in
        (quote ∷ h.0, rw (doubled_quote quote quote refl, eqb-true b quote e, eqb-true c quote f, ← h.1) refl)
    go two one true false e f found = absurd cc
    go two one false y e f found =
        let h = one found in
        (b ∷ h.0, rw (doubled_other quote b e, ← h.1) refl)

-- ---- no longer value stands in front

parted : (quote : ℕ) (rest tail : List ℕ) → Parts quote rest → rest ≡ quote ∷ tail → ⊥
parted quote [] tail p e = cc
parted quote (b ∷ rest) tail p e = p cc

-- of two values at the front of the same bytes, the one that a single quote ends is no shorter
pub no_longer : (quote : ℕ) (value other rest more : List ℕ) → Parts quote rest
    → flat_map (doubled quote) value ++ (quote ∷ rest) ≡ flat_map (doubled quote) other ++ more
    → length (flat_map (doubled quote) other) ≤ length (flat_map (doubled quote) value)
no_longer quote value [] rest more p e = omega arith
no_longer quote [] (y ∷ other) rest more p e = go (y == quote) refl
  where
    go : (b : Bool) → (y == quote) ≡ b → length (doubled quote y ++ flat_map (doubled quote) other) ≤ 0
    go true f =
        let d : quote ∷ rest ≡ quote ∷ quote ∷ (flat_map (doubled quote) other ++ more) = rw (doubled_quote quote y (eqb-true y quote f)) at e in
        absurd (parted quote rest (flat_map (doubled quote) other ++ more) p cc)
    go false f =
        let d : quote ∷ rest ≡ y ∷ (flat_map (doubled quote) other ++ more) = rw (doubled_other quote y f) at e in
        absurd (eqb-false y quote f cc)
no_longer quote (x ∷ value) (y ∷ other) rest more p e = go (no_longer quote value other rest more p) (x == quote) (y == quote) refl refl
  where
    vs : List ℕ
    vs = flat_map (doubled quote) value

    os : List ℕ
    os = flat_map (doubled quote) other

    go : (vs ++ (quote ∷ rest) ≡ os ++ more → length os ≤ length vs) → (a b : Bool) → (x == quote) ≡ a → (y == quote) ≡ b
        → length (doubled quote y ++ os) ≤ length (doubled quote x ++ vs)
    go rest_of true true f g =
        let dx = doubled_quote quote x (eqb-true x quote f) in
        let dy = doubled_quote quote y (eqb-true y quote g) in
        let d : quote ∷ quote ∷ (vs ++ (quote ∷ rest)) ≡ quote ∷ quote ∷ (os ++ more) = rw (dx, dy) at e in
        let le : length os ≤ length vs = rest_of cc in
        rw (dx, dy) (omega arith)
    go rest_of true false f g =
        let dx = doubled_quote quote x (eqb-true x quote f) in
        let dy = doubled_other quote y g in
        let d : quote ∷ quote ∷ (vs ++ (quote ∷ rest)) ≡ y ∷ (os ++ more) = rw (dx, dy) at e in
        absurd (eqb-false y quote g cc)
    go rest_of false true f g =
        let dx = doubled_other quote x f in
        let dy = doubled_quote quote y (eqb-true y quote g) in
        let d : x ∷ (vs ++ (quote ∷ rest)) ≡ quote ∷ quote ∷ (os ++ more) = rw (dx, dy) at e in
        absurd (eqb-false x quote f cc)
    go rest_of false false f g =
        let dx = doubled_other quote x f in
        let dy = doubled_other quote y g in
        let d : x ∷ (vs ++ (quote ∷ rest)) ≡ y ∷ (os ++ more) = rw (dx, dy) at e in
        let le : length os ≤ length vs = rest_of cc in
        rw (dx, dy) (omega arith)
