-- A field that is left out at its default is looked up as its default.
use Rattle.std.proofs.Common.{◌≡◌, ℕ, ◌==◌, ◌≤◌, Bool, true, false, cond, List, [], ◌∷◌, length, Option, None, refl, sym, ap, ◌∙◌, arith, length-append}
use Rattle.std.specs.Prelude.{filter_map, unwrap_or}
use Rattle.std.specs.List.{cons_option, list_all, last_or}
use Rattle.std.specs.Str.{is_utf8}
use lib.Utf8.{encode}
use Rattle.std.proofs.lemmas.Str.{is_utf8-from_IsUtf8}
use Rattle.std.proofs.lemmas.Bool.{not-false, eqb-true}
use Rattle.proto_wire.specs.Standard.{Content, Varint, Fixed64, Chunk, Fixed32, Entry}
use Rattle.proto_wire.specs.Writing.{field_spelling}
use Rattle.flight_proto.specs.Lookup.{held, chunk_of, varint_of, last_bytes, last_varint, are_texts}
use Rattle.flight_proto.specs.Message.{is_set, set_fields, spelled}

-- no field has this number
abbrev pub lacks : ℕ → List Entry → Bool
lacks number [] = true
lacks number (entry ∷ entries) = cond (entry.number == number) false (lacks number entries)

-- at most one has it
abbrev pub once : ℕ → List Entry → Bool
once number [] = true
once number (entry ∷ entries) = cond (entry.number == number) (lacks number entries) (once number entries)

-- an empty chunk is not set, and no other
pub unset_chunk : (bytes : List ℕ) → is_set (Chunk bytes) ≡ false → bytes ≡ []
unset_chunk [] e = refl
unset_chunk (b ∷ bytes) e =
    absurd (let long = eqb-true (length (b ∷ bytes)) 0 (not-false (length (b ∷ bytes) == 0) e) in omega arith)

unset_varint : (value : ℕ) → is_set (Varint value) ≡ false → value ≡ 0
unset_varint value e = eqb-true value 0 (not-false (value == 0) e)

module _ {A : Type 0} (of : Content → Option A) (number : ℕ) where
  abbrev found : List Entry → List A
  found entries = filter_map (held of number) entries

  -- a field of another number says nothing
  other_number : (entry : Entry) (entries : List Entry) → (entry.number == number) ≡ false → found (set_fields (entry ∷ entries)) ≡ found (set_fields entries)
  other_number entry entries other = by (is_set entry.content)
    where
      by : (set : Bool) → found (cond set (entry ∷ set_fields entries) (set_fields entries)) ≡ found (set_fields entries)
      by true = rw other refl
      by false = refl

  pub none_found : (entries : List Entry) → lacks number entries ≡ true → found entries ≡ []
  none_found [] h = refl
  none_found (entry ∷ entries) h = by (entry.number == number) refl h (none_found entries)
    where
      by : (same : Bool) → (entry.number == number) ≡ same → cond same false (lacks number entries) ≡ true → (lacks number entries ≡ true → found entries ≡ []) → found (entry ∷ entries) ≡ []
      by true e k rest = absurd cc
      by false e k rest = rw e (rest k)

  pub none_set : (entries : List Entry) → lacks number entries ≡ true → found (set_fields entries) ≡ []
  none_set [] h = refl
  none_set (entry ∷ entries) h = by (entry.number == number) refl h (none_set entries)
    where
      by : (same : Bool) → (entry.number == number) ≡ same → cond same false (lacks number entries) ≡ true → (lacks number entries ≡ true → found (set_fields entries) ≡ []) → found (set_fields (entry ∷ entries)) ≡ []
      by true e k rest = absurd cc
      by false e k rest = other_number entry entries e ∙ rest k

  -- what is said of the values that are found is the same where the default is left out
  pub kept : {B : Type 0} (say : List A → B) → ((content : Content) → is_set content ≡ false → say (cons_option (of content) []) ≡ say [])
      → (entries : List Entry) → once number entries ≡ true → say (found (set_fields entries)) ≡ say (found entries)
  kept say same [] h = refl
  kept say same (entry ∷ entries) h = by (entry.number == number) refl h (kept say same entries)
    where
      here : (set : Bool) → is_set entry.content ≡ set → (entry.number == number) ≡ true → lacks number entries ≡ true
          → say (found (cond set (entry ∷ set_fields entries) (set_fields entries))) ≡ say (cons_option (of entry.content) (found entries))
      here true s e k = rw (e, none_set entries k, none_found entries k) refl
      here false s e k = rw (none_set entries k, none_found entries k) (sym (same entry.content s))

      by : (first : Bool) → (entry.number == number) ≡ first → cond first (lacks number entries) (once number entries) ≡ true
          → (once number entries ≡ true → say (found (set_fields entries)) ≡ say (found entries))
          → say (found (set_fields (entry ∷ entries))) ≡ say (found (entry ∷ entries))
      by true e k rest = rw e (here (is_set entry.content) refl e k)
      by false e k rest = rw e (ap say (other_number entry entries e) ∙ rest k)

-- ---- the look-ups

empty_bytes : (content : Content) → is_set content ≡ false → unwrap_or (last_or None (cons_option (chunk_of content) [])) [] ≡ []
empty_bytes (Chunk bytes) h = unset_chunk bytes h
empty_bytes (Varint value) h = refl
empty_bytes (Fixed64 value) h = refl
empty_bytes (Fixed32 value) h = refl

pub kept_bytes : (number : ℕ) (entries : List Entry) → once number entries ≡ true → last_bytes number (set_fields entries) ≡ last_bytes number entries
kept_bytes number entries h = kept chunk_of number (λ values. unwrap_or (last_or None values) []) empty_bytes entries h

no_varint : (content : Content) → is_set content ≡ false → unwrap_or (last_or None (cons_option (varint_of content) [])) 0 ≡ 0
no_varint (Varint value) h = unset_varint value h
no_varint (Chunk bytes) h = refl
no_varint (Fixed64 value) h = refl
no_varint (Fixed32 value) h = refl

pub kept_varint : (number : ℕ) (entries : List Entry) → once number entries ≡ true → last_varint number (set_fields entries) ≡ last_varint number entries
kept_varint number entries h = kept varint_of number (λ values. unwrap_or (last_or None values) 0) no_varint entries h

no_bytes_text : is_utf8 [] ≡ true
unfolding encode
no_bytes_text = is_utf8-from_IsUtf8 [] ([], (refl, refl))

no_text : (content : Content) → is_set content ≡ false → list_all is_utf8 (cons_option (chunk_of content) []) ≡ true
no_text (Chunk bytes) h = rw (unset_chunk bytes h, no_bytes_text) refl
no_text (Varint value) h = refl
no_text (Fixed64 value) h = refl
no_text (Fixed32 value) h = refl

pub kept_texts : (number : ℕ) (entries : List Entry) → once number entries ≡ true → are_texts number (set_fields entries) ≡ are_texts number entries
kept_texts number entries h = kept chunk_of number (list_all is_utf8) no_text entries h

-- ---- lengths

-- what is left out makes a message no longer
pub short_set : (entries : List Entry) → length (spelled (set_fields entries)) ≤ length (spelled entries)
short_set [] = omega arith
short_set (entry ∷ entries) = by (is_set entry.content) (short_set entries)
  where
    by : (there : Bool) → length (spelled (set_fields entries)) ≤ length (spelled entries) → length (spelled (cond there (entry ∷ set_fields entries) (set_fields entries))) ≤ length (spelled (entry ∷ entries))
    by true rest = omega (arith, rest, length-append (field_spelling entry) (spelled entries), length-append (field_spelling entry) (spelled (set_fields entries)))
    by false rest = omega (arith, rest, length-append (field_spelling entry) (spelled entries))
