-- Texts that are made one after another, and read.
use Rattle.std.proofs.Common.{◌≡◌, ◌≤◌, ◌<◌, ◌^◌, ℕ, suc, ◌+◌, Bool, true, false, List, [], ◌∷◌, ◌++◌, length, map, nat_le, None, get_or, take, slice_range, Ok, refl, sym, ap, ◌∙◌, arith}
use Rattle.std.specs.List.{range_with_len}
use Rattle.std.proofs.lemmas.List.{length-map, get_or-map}
use Rattle.scan_base.specs.declared.fault.Fault.TheVariants.{BadBatch, LimitReached}
use Rattle.scan_base.specs.declared.value.Value.{Value}
use Rattle.scan_base.specs.declared.value.Value.TheVariants.{Null, Text}
use Rattle.scan_base.specs.Reading.{◌>>=◌, demand}
use Rattle.scan_base.specs.Limits.{most_values}
use Rattle.arrays.specs.Dictionary.{extended_by}
use Rattle.arrays.specs.Number.{element_at}
use Rattle.arrays.specs.Texts.{TextsAt, texts_of, texts_slot, texts_stand, texts_values}
use Rattle.arrays.specs.WrittenSlots.{text_bytes, texts_joined, offsets_from}
use Rattle.arrays.proofs.Offsets.{offset_again, text_again}
use Rattle.dictionary_answers.specs.Firsts.{bytes_in}

-- slots of texts that stand one after another
abbrev made : List (List ℕ) → TextsAt
made texts = record { validity = None; offsets = offsets_from 0 (map Text texts); bytes = texts_joined (map Text texts); len = length texts }

offset_made : (values : List Value) (j : ℕ) → j ≤ length values → length (texts_joined values) < 2 ^ 31 →
    element_at 4 (offsets_from 0 values) j ≡ length (texts_joined (take j values))
offset_made values j low short = offset_again values 0 j low (omega arith) ∙ omega arith

-- the text of a slot
text_made : (texts : List (List ℕ)) (j : ℕ) → j < length texts → bytes_in texts < 2 ^ 31 → texts_slot (made texts) j ≡ Text (get_or texts j [])
text_made texts j low short =
    let values = map Text texts in
    let long : length values ≡ length texts = length-map texts Text in
    ap Text (ap (λ (a : ℕ). slice_range (texts_joined values) a (element_at 4 (offsets_from 0 values) (j + 1))) (offset_made values j (omega (arith, long, low)) short)
    ∙ ap (λ (b : ℕ). slice_range (texts_joined values) (length (texts_joined (take j values))) b) (offset_made values (j + 1) (omega (arith, long, low)) short)
    ∙ text_again values j Null (omega (arith, long, low))
    ∙ ap text_bytes (get_or-map Text texts j [] Null low))

-- the values of slots that each have a text
all_texts : (texts : List (List ℕ)) (f : ℕ → Value) (a : ℕ) → ((k : ℕ) → k < length texts → f (a + k) ≡ Text (get_or texts k [])) →
    map f (range_with_len a (length texts)) ≡ map Text texts
all_texts [] f a each = refl
all_texts (text ∷ texts) f a each =
    let z : a + 0 ≡ a = omega arith in
    let first : f a ≡ Text text = ap f (sym z) ∙ each 0 (omega arith) in
    let rest = all_texts texts f (a + 1) (λ k low. let e : (a + 1) + k ≡ a + suc k = omega arith in rw e (each (suc k) (omega arith))) in
    rw (first, rest) refl

-- what is read of them
read_is : (offsets bytes : List ℕ) (len : ℕ) (part : TextsAt) → texts_of None offsets bytes len ≡ Ok part →
    part ≡ record { validity = None; offsets = offsets; bytes = bytes; len = len }
unfolding texts_of
read_is offsets bytes len part read = by (texts_stand (record { validity = None; offsets = offsets; bytes = bytes; len = len })) read
  where
    by : (stand : Bool) → (demand stand BadBatch >>= λ _. Ok (record { validity = None; offsets = offsets; bytes = bytes; len = len })) ≡ Ok part →
        part ≡ record { validity = None; offsets = offsets; bytes = bytes; len = len }
    by true read = cc
    by false read = absurd (let no : ⊥ = cc in no)

pub part_made : (texts : List (List ℕ)) (offsets bytes : List ℕ) (len : ℕ) (part : TextsAt) → offsets ≡ offsets_from 0 (map Text texts) → bytes ≡ texts_joined (map Text texts) → len ≡ length texts →
    bytes_in texts < 2 ^ 31 → texts_of None offsets bytes len ≡ Ok part → texts_values part ≡ map Text texts
part_made texts offsets bytes len part a b many short read =
    let is : part ≡ made texts = rw (a, b, many) at (read_is offsets bytes len part read) in
    ap texts_values is ∙ all_texts texts (texts_slot (made texts)) 0
    (λ k low. let z : 0 + k ≡ k = omega arith in rw z (text_made texts k low short))

-- no values with those of one part after them
pub alone_is : (old made : List Value) (part : TextsAt) → old ≡ [] → extended_by old part ≡ Ok made → made ≡ texts_values part
unfolding extended_by
alone_is old made part none read = by (nat_le (length old + part.len) most_values) read
  where
    by : (small : Bool) → (demand small LimitReached >>= λ _. Ok (old ++ texts_values part)) ≡ Ok made → made ≡ texts_values part
    by true read = let same : old ++ texts_values part ≡ made = cc in sym same ∙ ap (λ (xs : List Value). xs ++ texts_values part) none
    by false read = absurd (let no : ⊥ = cc in no)
