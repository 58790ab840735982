-- Keys, by what is compared of them.
use Rattle.std.proofs.Common.{◌≡◌, ◌≢◌, ◌<◌, ℕ, true, false, length, get_or, pos, refl, sym, ap, ◌∙◌, arith}
use Rattle.std.specs.Prelude.{None}
use Rattle.std.specs.Ordering.{int_eq}
use Rattle.std.proofs.lemmas.Bool.Decides.{Decides-int_eq}
use Rattle.std.proofs.lemmas.List.{get_or-map, length-map}
use Rattle.scan_base.specs.Predicate.{cell_in}
use Rattle.arrays.specs.Batch.{row_of}
use Rattle.scan_base.specs.declared.value.Value.{Value}
use Rattle.scan_base.specs.declared.value.Value.TheVariants.{Null}
use Rattle.first_rows.specs.declared.numbered_keys.NumberedKey.{NumberedKey}
use Rattle.first_rows.specs.NumberedKeys.{coded, first_of, rest, rest_of}
use Rattle.first_rows.specs.Parts.{parts_self, parts_sound, same_part, same_parts}
use Rattle.first_rows.specs.RowKeys.{key_of}
use Rattle.first_rows.proofs.KeyCells.{decide, same_all, same_not}

-- keys whose parts differ differ
pub coded_other : (a b : NumberedKey) → same_parts (rest_of a) (rest_of b) ≡ false → same_parts (coded a) (coded b) ≡ false
coded_other a b differ = decide (same_parts (coded a) (coded b)) (λ h.
    let same : coded a ≡ coded b = parts_sound (coded a) (coded b) h in
    let rests : rest_of a ≡ rest_of b = cc in
    let self = parts_self (rest_of a) in
    let bad : same_parts (rest_of a) (rest_of a) ≡ false = rw (ap (same_parts (rest_of a)) rests) differ in
    let wrong : true ≡ false = cc in
    absurd (cc))

-- keys of two numbers of texts differ
pub coded_apart : (a b : NumberedKey) → a.texts ≢ b.texts → same_parts (coded a) (coded b) ≡ false
coded_apart a b differ = decide (same_parts (coded a) (coded b)) (λ h.
    let same : coded a ≡ coded b = parts_sound (coded a) (coded b) h in
    differ cc)

-- keys of one number whose parts are the same are the same
pub coded_all : (a b : NumberedKey) → a.texts ≡ b.texts → length (rest_of a) ≡ length (rest_of b) →
    ((k : ℕ) → k < length (rest_of a) → same_part (get_or (rest_of a) k None) (get_or (rest_of b) k None) ≡ true) → same_parts (coded a) (coded b) ≡ true
coded_all a b texts long same =
    let one : int_eq (pos a.texts) (pos b.texts) ≡ true = (Decides-int_eq (pos a.texts) (pos b.texts)).1 (ap pos texts) in
    let rests : same_parts (rest_of a) (rest_of b) ≡ true = same_all (rest_of a) (rest_of b) long same in
    rw (one, rests) refl

key_long : (key : NumberedKey) → length (key_of (first_of key)) ≡ length key.columns.now
key_long key = length-map key.columns.now (cell_in (row_of key.batch.now.columns key.row))

-- a key has as much to compare as columns
pub rest_long : (key : NumberedKey) → length (rest_of key) ≡ length key.columns.now
rest_long key = length-map (key_of (first_of key)) (rest key.texts) ∙ key_long key

-- what is compared of a value of a key
pub part_rest : (key : NumberedKey) (place : ℕ) (value : Value) → place < length key.columns.now → value ≡ get_or (key_of (first_of key)) place Null →
    rest key.texts value ≡ get_or (rest_of key) place None
part_rest key place value low is =
    ap (rest key.texts) is ∙ sym (get_or-map (rest key.texts) (key_of (first_of key)) place Null None (omega (arith, low, key_long key)))

-- keys of two lengths differ
pub coded_short : (a b : NumberedKey) → length a.columns.now ≢ length b.columns.now → same_parts (coded a) (coded b) ≡ false
coded_short a b differ =
    let apart : length (rest_of a) ≢ length (rest_of b) = omega (arith, rest_long a, rest_long b, differ) in
    coded_other a b (same_not (rest_of a) (rest_of b) apart)
