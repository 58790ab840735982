-- What reads as a field stands in front in the standard's words, and what stands there is read.
use Rattle.std.proofs.Common.{◌≡◌, ℕ, ◌+◌, ◌*◌, ◌/◌, ◌%◌, ◌<◌, ◌↔◌, true, List, [], ◌∷◌, ◌++◌, length, take, drop, Ok, refl, sym, ap, ◌∙◌, append_assoc, arith, inl, inr}
use Rattle.std.specs.Prelude.{nat_le}
use Rattle.std.specs.Int.{w32, w64, from_le_bytes}
use Rattle.std.proofs.lemmas.Bool.{and_parts, le-leb, leb-true}
use Rattle.std.proofs.lemmas.List.{length-append, length-take-le, take-append-drop, take_at, drop_at}
use Rattle.scan_base.specs.declared.fault.Fault.TheVariants.{BadProto}
use Rattle.scan_base.specs.Reading.{◌>>=◌, demand}
use Rattle.proto_wire.specs.Standard.{Content, Varint, Fixed64, Chunk, Fixed32, Entry, IsFieldNumber, IsGroups, wire_type, Holds, StandsInFront}
use Rattle.proto_wire.specs.Reading.{varint_at, front_bytes, content_by, payload_at, is_field_number, field_at}
use Rattle.proto_wire.proofs.Then.{same_front, then_ok, demanded, if_ok, split}
use Rattle.proto_wire.proofs.Groups.{Front, varint_stands, varint_again}

-- ---- so many bytes

pub bytes_stand : (count : ℕ) (bytes part rest : List ℕ) → front_bytes count bytes ≡ Ok (part, rest) → (bytes ≡ part ++ rest) × (length part ≡ count)
bytes_stand count bytes part rest e =
    let h = if_ok (nat_le count (length bytes)) _ BadProto (part, rest) e in
    let p = same_front (take count bytes) part (drop count bytes) rest h.1 in
    let le = leb-true count (length bytes) h.0 in
    (rw (← p.0, ← p.1) (sym (take-append-drop count bytes)), rw (← p.0) (length-take-le count bytes le))

pub bytes_again : (part rest : List ℕ) (count : ℕ) → length part ≡ count → front_bytes count (part ++ rest) ≡ Ok (part, rest)
bytes_again part rest count e =
    rw (le-leb count (length (part ++ rest)) (omega (arith, e, length-append part rest)), take_at part rest count e, drop_at part rest count e) refl

-- ---- what a field holds

pub record Read (wire : ℕ) (content : Content) (bytes rest : List ℕ) : Type 0 where
  pub wire_is : wire ≡ wire_type content
  pub front : Front (Holds content) bytes rest

varint_payload : (wire : ℕ) (bytes : List ℕ) (content : Content) (rest : List ℕ) → wire ≡ 0 → content_by Varint (varint_at bytes) ≡ Ok (content, rest) → Read wire content bytes rest
varint_payload wire bytes content rest at e =
    then_ok (varint_at bytes) (λ (value : ℕ × List ℕ). Ok (Varint value.0, value.1)) (content, rest) e (λ value found made.
    let p = same_front (Varint value.0) content value.1 rest made in
    rw (← p.0, ← p.1) (record { wire_is = at; front = varint_stands bytes value.0 value.1 found }))

fixed64_payload : (wire : ℕ) (bytes : List ℕ) (content : Content) (rest : List ℕ) → wire ≡ 1 → content_by (λ fixed. Fixed64 (from_le_bytes w64 fixed)) (front_bytes 8 bytes) ≡ Ok (content, rest) → Read wire content bytes rest
fixed64_payload wire bytes content rest at e =
    then_ok (front_bytes 8 bytes) (λ (fixed : List ℕ × List ℕ). Ok (Fixed64 (from_le_bytes w64 fixed.0), fixed.1)) (content, rest) e (λ fixed found made.
    let p = same_front (Fixed64 (from_le_bytes w64 fixed.0)) content fixed.1 rest made in
    let s = bytes_stand 8 bytes fixed.0 fixed.1 found in
    rw (← p.0, ← p.1) (record { wire_is = at; front = record { front = fixed.0; whole = s.0; holds = (s.1, refl) } }))

fixed32_payload : (wire : ℕ) (bytes : List ℕ) (content : Content) (rest : List ℕ) → wire ≡ 5 → content_by (λ fixed. Fixed32 (from_le_bytes w32 fixed)) (front_bytes 4 bytes) ≡ Ok (content, rest) → Read wire content bytes rest
fixed32_payload wire bytes content rest at e =
    then_ok (front_bytes 4 bytes) (λ (fixed : List ℕ × List ℕ). Ok (Fixed32 (from_le_bytes w32 fixed.0), fixed.1)) (content, rest) e (λ fixed found made.
    let p = same_front (Fixed32 (from_le_bytes w32 fixed.0)) content fixed.1 rest made in
    let s = bytes_stand 4 bytes fixed.0 fixed.1 found in
    rw (← p.0, ← p.1) (record { wire_is = at; front = record { front = fixed.0; whole = s.0; holds = (s.1, refl) } }))

chunk_payload : (wire : ℕ) (bytes : List ℕ) (content : Content) (rest : List ℕ) → wire ≡ 2 → (varint_at bytes >>= λ len. content_by Chunk (front_bytes len.0 len.1)) ≡ Ok (content, rest) → Read wire content bytes rest
chunk_payload wire bytes content rest at e =
    then_ok (varint_at bytes) (λ (len : ℕ × List ℕ). front_bytes len.0 len.1 >>= λ (chunk : List ℕ × List ℕ). Ok (Chunk chunk.0, chunk.1)) (content, rest) e (λ len len_found after.
    then_ok (front_bytes len.0 len.1) (λ (chunk : List ℕ × List ℕ). Ok (Chunk chunk.0, chunk.1)) (content, rest) after (λ chunk found made.
    let p = same_front (Chunk chunk.0) content chunk.1 rest made in
    let v = varint_stands bytes len.0 len.1 len_found in
    let s = bytes_stand len.0 len.1 chunk.0 chunk.1 found in
    rw (← p.0, ← p.1) (record {
      wire_is = at;
      front = record {
        front = v.front ++ chunk.0;
        whole = v.whole ∙ ap (λ (t : List ℕ). v.front ++ t) s.0 ∙ sym (append_assoc v.front chunk.0 chunk.1);
        holds = record { len = v.front; len_is = rw s.1 v.holds; whole = refl };
      };
    })))

pub payload_stands : (wire : ℕ) (bytes : List ℕ) (content : Content) (rest : List ℕ) → payload_at wire bytes ≡ Ok (content, rest) → Read wire content bytes rest
unfolding payload_at
payload_stands wire bytes content rest e =
    elim (split wire 0 _ _ _ e) [
      | inl h ↦ varint_payload wire bytes content rest h.0 h.1
      | inr h ↦ elim (split wire 1 _ _ _ h.1) [
        | inl h ↦ fixed64_payload wire bytes content rest h.0 h.1
        | inr h ↦ elim (split wire 2 _ _ _ h.1) [
          | inl h ↦ chunk_payload wire bytes content rest h.0 h.1
          | inr h ↦ elim (split wire 5 _ _ _ h.1) [
            | inl h ↦ fixed32_payload wire bytes content rest h.0 h.1
            | inr h ↦ absurd (let none = h.1 in cc)
          ]
        ]
      ]
    ]

pub payload_again : (content : Content) (front rest : List ℕ) → Holds content front → payload_at (wire_type content) (front ++ rest) ≡ Ok (content, rest)
unfolding payload_at
payload_again (Varint value) front rest h = rw (varint_again front value rest h) refl
payload_again (Fixed64 value) front rest h = rw (bytes_again front rest 8 h.0, ← h.1) refl
payload_again (Chunk chunk) front rest h =
    rw (h.whole, append_assoc h.len chunk rest, varint_again h.len (length chunk) (chunk ++ rest) h.len_is, bytes_again chunk rest (length chunk) refl) refl
payload_again (Fixed32 value) front rest h = rw (bytes_again front rest 4 h.0, ← h.1) refl

-- ---- a field

number_kept : (number : ℕ) → is_field_number number ≡ true → IsFieldNumber number
number_kept number e =
    let h = and_parts (nat_le 1 number) (nat_le number 536870911) e in
    (leb-true 1 number h.0, leb-true number 536870911 h.1)

number_again : (number : ℕ) → IsFieldNumber number → is_field_number number ≡ true
number_again number h = rw (le-leb 1 number h.0, le-leb number 536870911 h.1) refl

wire_below : (content : Content) → wire_type content < 8
wire_below (Varint value) = omega arith
wire_below (Fixed64 value) = omega arith
wire_below (Chunk chunk) = omega arith
wire_below (Fixed32 value) = omega arith

pub field_stands : (bytes : List ℕ) (entry : Entry) (rest : List ℕ) → field_at bytes ≡ Ok (entry, rest) → StandsInFront entry bytes rest
unfolding field_at
field_stands bytes entry rest e =
    then_ok (varint_at bytes) (λ (tag : ℕ × List ℕ). demand (is_field_number (tag.0 / 8)) BadProto >>= λ _. payload_at (tag.0 % 8) tag.1 >>= λ (payload : Content × List ℕ). Ok (record { number = tag.0 / 8; content = payload.0 }, payload.1)) (entry, rest) e (λ tag tag_found after_tag.
    then_ok (demand (is_field_number (tag.0 / 8)) BadProto) (λ _. payload_at (tag.0 % 8) tag.1 >>= λ (payload : Content × List ℕ). Ok (record { number = tag.0 / 8; content = payload.0 }, payload.1)) (entry, rest) after_tag (λ held kept after_number.
    then_ok (payload_at (tag.0 % 8) tag.1) (λ (payload : Content × List ℕ). Ok (record { number = tag.0 / 8; content = payload.0 }, payload.1)) (entry, rest) after_number (λ payload found made.
    let p = same_front (record { number = tag.0 / 8; content = payload.0 }) entry payload.1 rest made in
    let number = number_kept (tag.0 / 8) (demanded (is_field_number (tag.0 / 8)) BadProto held kept) in
    let t = varint_stands bytes tag.0 tag.1 tag_found in
    let r = payload_stands (tag.0 % 8) tag.1 payload.0 payload.1 found in
    let tag_is : 8 * (tag.0 / 8) + wire_type payload.0 ≡ tag.0 = omega (arith, r.wire_is) in
    rw (← p.0, ← p.1) (record {
      front = t.front ++ r.front.front;
      whole = t.whole ∙ ap (λ (after : List ℕ). t.front ++ after) r.front.whole ∙ sym (append_assoc t.front r.front.front payload.1);
      is_field = record { number_is = number; tag = t.front; tag_is = rw tag_is t.holds; body = r.front.front; holds = r.front.holds; whole = refl };
    }))))

pub field_again : (bytes : List ℕ) (entry : Entry) (rest : List ℕ) → StandsInFront entry bytes rest → field_at bytes ≡ Ok (entry, rest)
unfolding field_at
field_again bytes entry rest s =
    let f = s.is_field in
    let below : wire_type entry.content < 8 = wire_below entry.content in
    let number : (8 * entry.number + wire_type entry.content) / 8 ≡ entry.number = omega arith in
    let wire : (8 * entry.number + wire_type entry.content) % 8 ≡ wire_type entry.content = omega arith in
    rw (s.whole, f.whole, append_assoc f.tag f.body rest, varint_again f.tag (8 * entry.number + wire_type entry.content) (f.body ++ rest) f.tag_is, number, wire, number_again entry.number f.number_is, payload_again entry.content f.body rest f.holds) refl

pub front_law : (bytes : List ℕ) (entry : Entry) (rest : List ℕ) → (field_at bytes ≡ Ok (entry, rest)) ↔ StandsInFront entry bytes rest
front_law bytes entry rest = (field_stands bytes entry rest, field_again bytes entry rest)

pub at_most_one_front : (bytes : List ℕ) (entry other : Entry) (rest more : List ℕ) → StandsInFront entry bytes rest → StandsInFront other bytes more → (entry ≡ other) × (rest ≡ more)
at_most_one_front bytes entry other rest more s t =
    same_front entry other rest more (sym (field_again bytes entry rest s) ∙ field_again bytes other more t)

-- a field is not empty
pub front_shorter : (bytes : List ℕ) (entry : Entry) (rest : List ℕ) → StandsInFront entry bytes rest → length rest < length bytes
front_shorter bytes entry rest s = shorter s.is_field.tag s.is_field.tag_is.groups s.is_field.whole
  where
    shorter : (tag : List ℕ) → IsGroups tag → s.front ≡ tag ++ s.is_field.body → length rest < length bytes
    shorter [] g w = absurd g
    shorter (b ∷ tag) g w = omega (arith, ap length s.whole, length-append s.front rest, ap length w)
