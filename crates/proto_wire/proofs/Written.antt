-- What is written for fields are those fields in the standard's words.
use Rattle.std.proofs.Common.{◌≡◌, ℕ, zero, suc, ◌+◌, ◌-◌, ◌*◌, ◌/◌, ◌%◌, ◌^◌, ◌<◌, ◌≤◌, List, [], ◌∷◌, ◌++◌, length, take, drop, set, Ok, refl, sym, ap, ◌∙◌, append_assoc, append-nil, arith, rules, inl, inr}
use Rattle.std.specs.Prelude.{All, flat_map, map, slice_index_or}
use Rattle.std.proofs.lemmas.Bool.{cases_lt, lt-ltb, le-ltb}
use Rattle.std.proofs.lemmas.Nat.{div_below, from_le_bytes-to_le_bytes_4, from_le_bytes-to_le_bytes_8}
use Rattle.std.proofs.Math.Nat.{pow-suc}
use Rattle.std.proofs.lemmas.List.{take_more_set, take_at, take-take, drop_at, length-append, map_more}
use Rattle.std.proofs.lemmas.Grind.{flat_map-append}
use Rattle.proto_wire.specs.Standard.{Content, Varint, Fixed64, Chunk, Fixed32, Entry, IsFieldNumber, IsVarint, Holds, IsField, IsFields, wire_type}
use Rattle.proto_wire.specs.Reading.{varint_at}
use Rattle.proto_wire.specs.Writing.{groups_of, varint, body, field_spelling, chunk_head, Fits, IsWritable}
use Rattle.proto_wire.specs.Laws.{ChunksFollowHeads}
use Rattle.proto_wire.specs.declared.field.Field.{Field}
use Rattle.std.proofs.lemmas.List.Elements.{All-push}
use Rattle.proto_wire.specs.Calls.{HaveFieldNumbers, entry_of, message_of, chunk_entry}
use Rattle.proto_wire.proofs.Groups.{Says, varint_again}

-- ---- the groups of a number

room_at : (more n : ℕ) → 128 ≤ n → n < 128 ^ suc more → (0 < more) × (n / 128 < 128 ^ more)
room_at zero n le small = absurd (omega arith)
room_at (suc more) n le small =
    (omega arith, div_below n 128 (128 ^ suc more) (omega arith) (rw (← pow-suc 128 (suc more)) small))

says_more : (more n : ℕ) (bytes : List ℕ) → 128 ≤ n → Says (suc more) (n / 128) bytes → Says (suc (suc more)) n ((n % 128 + 128) ∷ bytes)
says_more more n [] le s = absurd s.groups
says_more more n (x ∷ xs) le s =
    record { groups = (omega arith, s.groups); short = let l = s.short in omega arith; value_is = let v = s.value_is in omega arith }

groups_say : (more n : ℕ) → n < 128 ^ suc more → Says (suc more) n (groups_of more n)
groups_say zero n small = record { groups = omega arith; short = omega arith; value_is = omega arith }
groups_say (suc more) n small =
    elim (cases_lt n 128) [
      | inl lt ↦ rw (lt-ltb n 128 lt) (record { groups = lt; short = omega arith; value_is = omega arith })
      | inr le ↦ rw (le-ltb n 128 le) (says_more more n (groups_of more (n / 128)) le (groups_say more (n / 128) (room_at (suc more) n le small).1))
    ]

pub varint_is : (n : ℕ) → n < 2 ^ 64 → IsVarint (varint n) n
unfolding varint
varint_is n small =
    let s = groups_say 9 n (omega arith) in
    record { groups = s.groups; short = s.short; value_is = let v = s.value_is in omega arith }

pub varint_reads_back : (n : ℕ) (rest : List ℕ) → n < 2 ^ 64 → varint_at (varint n ++ rest) ≡ Ok (n, rest)
varint_reads_back n rest small = varint_again (varint n) n rest (varint_is n small)

-- ---- one group more in the buffer

-- the groups in the buffer, and those of what is left of the number
pub record Filled (number stop left : ℕ) (buffer : List ℕ) : Type 0 where
  pub room : stop < 10
  pub small : left < 128 ^ (10 - stop)
  pub buffer_len : length buffer ≡ 10
  pub groups : take stop buffer ++ groups_of (9 - stop) left ≡ groups_of 9 number

groups_step : (more n : ℕ) → 0 < more → 128 ≤ n → groups_of more n ≡ (n % 128 + 128) ∷ groups_of (more - 1) (n / 128)
groups_step zero n p le = absurd (omega arith)
groups_step (suc more) n p le = let e : suc more - 1 ≡ more = omega arith in rw (le-ltb n 128 le, e) refl

groups_last : (more n : ℕ) → n < 128 → groups_of more n ≡ n ∷ []
groups_last zero n lt = refl
groups_last (suc more) n lt = rw (lt-ltb n 128 lt) refl

pub filled_more : (number stop left : ℕ) (buffer : List ℕ) → 128 ≤ left → Filled number stop left buffer → Filled number (stop + 1) (left / 128) (set buffer stop (left % 128 + 128))
filled_more number stop left buffer le f =
    let room = f.room in
    let e : 10 - stop ≡ suc (9 - stop) = omega arith in
    let r = room_at (9 - stop) left le (rw e at f.small) in
    let last : 10 - (stop + 1) ≡ 9 - stop = omega arith in
    let less : 9 - (stop + 1) ≡ 9 - stop - 1 = omega arith in
    record {
      room = omega (arith, r.0);
      small = rw last r.1;
      buffer_len = search (rules, f.buffer_len);
      groups = rw (take_more_set buffer stop (left % 128 + 128) (omega (arith, f.buffer_len)), append_assoc (take stop buffer) ((left % 128 + 128) ∷ []) (groups_of (9 - (stop + 1)) (left / 128)), less) (rw (groups_step (9 - stop) left (omega (arith, r.0)) le) at f.groups);
    }

pub filled_last : (number stop left : ℕ) (buffer : List ℕ) → left < 128 → Filled number stop left buffer → take (stop + 1) (set buffer stop left) ≡ varint number
unfolding varint
filled_last number stop left buffer lt f =
    let room = f.room in
    rw (take_more_set buffer stop left (omega (arith, f.buffer_len))) (rw (groups_last (9 - stop) left lt) at f.groups)

-- ---- a field

wire_low : (content : Content) → wire_type content ≤ 5
wire_low (Varint value) = omega arith
wire_low (Fixed64 value) = omega arith
wire_low (Chunk chunk) = omega arith
wire_low (Fixed32 value) = omega arith

body_holds : (content : Content) → Fits content → Holds content (body content)
body_holds (Varint value) fits = varint_is value fits
body_holds (Fixed64 value) fits = (refl, sym (from_le_bytes-to_le_bytes_8 value fits))
body_holds (Chunk chunk) fits = record { len = varint (length chunk); len_is = varint_is (length chunk) fits; whole = refl }
body_holds (Fixed32 value) fits = (refl, sym (from_le_bytes-to_le_bytes_4 value fits))

pub spelling_is : (entry : Entry) → IsWritable entry → IsField (field_spelling entry) entry
unfolding field_spelling
spelling_is entry h =
    let low = wire_low entry.content in
    let number = h.number_is in
    record {
      number_is = number;
      tag = varint (8 * entry.number + wire_type entry.content);
      tag_is = varint_is (8 * entry.number + wire_type entry.content) (omega (arith, number.1));
      body = body entry.content;
      holds = body_holds entry.content h.fits;
      whole = refl;
    }

-- ---- a field more at the end

pub gains : (old spelled : List ℕ) (entry : Entry) → IsField spelled entry → (entries : List Entry) → IsFields old entries → IsFields (old ++ spelled) (entries ++ entry ∷ [])
gains old spelled entry f [] h = rw h (spelled, [], sym (append-nil spelled), f, refl)
gains old spelled entry f (first ∷ others) h =
    (h.0, h.1 ++ spelled, rw h.2 (append_assoc h.0 h.1 spelled), h.3, gains h.1 spelled entry f others h.4)

pub spellings_are : (entries : List Entry) → All IsWritable entries → IsFields (flat_map field_spelling entries) entries
spellings_are [] all = refl
spellings_are (entry ∷ entries) all =
    (field_spelling entry, flat_map field_spelling entries, refl, spelling_is entry (all 0 entry (omega arith)), spellings_are entries (λ k d lt. all (suc k) d (omega arith)))

-- ---- a writer that runs out of memory in the middle leaves what was there before it

pub kept_before : (old part mid new : List ℕ) → mid ≡ old ++ part → take (length mid) new ≡ mid → take (length old) new ≡ old
kept_before old part mid new first kept =
    let shorter : length old ≤ length mid = omega (arith, ap length first, length-append old part) in
    sym (take-take (length old) (length mid) new shorter) ∙ rw (kept, first) (take_at old part (length old) refl)

-- ---- what the calls leave

pub has_number : (fields : List Field) (index : ℕ) (field : Field) → index < length fields → HaveFieldNumbers fields → IsFieldNumber (slice_index_or fields index field).number
has_number [] index field lt h = absurd (omega arith)
has_number (first ∷ fields) zero field lt h = h.0
has_number (first ∷ fields) (suc index) field lt h = has_number fields index field (omega arith) h.1

-- one field more of a list is written
pub written_more : (start old new : List ℕ) (fields : List Field) (index : ℕ) (field : Field) → index < length fields → (old ≡ start ++ message_of (take index fields)) × All IsWritable (map entry_of (take index fields)) → new ≡ old ++ field_spelling (entry_of (slice_index_or fields index field)) → IsWritable (entry_of (slice_index_or fields index field)) → (new ≡ start ++ message_of (take (index + 1) fields)) × All IsWritable (map entry_of (take (index + 1) fields))
written_more start old new fields index field lt before e h =
    let one : map entry_of (take (index + 1) fields) ≡ map entry_of (take index fields) ++ entry_of (slice_index_or fields index field) ∷ [] = map_more entry_of fields index field lt in
    (rw (one, flat_map-append field_spelling (map entry_of (take index fields)) (entry_of (slice_index_or fields index field) ∷ []), append-nil (field_spelling (entry_of (slice_index_or fields index field))), ← append_assoc start (message_of (take index fields)) (field_spelling (entry_of (slice_index_or fields index field))), ← before.0) e, rw one (All-push IsWritable (map entry_of (take index fields)) (entry_of (slice_index_or fields index field)) before.1 h))

-- the fields of a message, its tag and its length, turned
pub message_written : (number : ℕ) (old chunk filled tagged whole turned : List ℕ) (start len n : ℕ) → filled ≡ old ++ chunk → tagged ≡ filled ++ varint (8 * number + 2) → whole ≡ tagged ++ varint len → start ≡ length old → len ≡ length chunk → n ≡ length whole → turned ≡ take start whole ++ (drop (start + len) whole ++ take len (drop start whole)) → take n (turned ++ drop (length turned) whole) ≡ old ++ field_spelling (chunk_entry number chunk)
unfolding field_spelling
message_written number old chunk filled tagged whole turned start len n a b d e long l t =
    let head : List ℕ = varint (8 * number + 2) ++ varint (length chunk) in
    let at : whole ≡ (old ++ chunk) ++ head = d ∙ rw (b, a, long) (append_assoc (old ++ chunk) (varint (8 * number + 2)) (varint (length chunk))) in
    let split : whole ≡ old ++ (chunk ++ head) = at ∙ append_assoc old chunk head in
    let front : take start whole ≡ old = rw split (take_at old _ start (sym e)) in
    let rest : drop start whole ≡ chunk ++ head = rw split (drop_at old _ start (sym e)) in
    let middle : take len (drop start whole) ≡ chunk = rw rest (take_at chunk _ len (sym long)) in
    let last : drop (start + len) whole ≡ head = rw at (drop_at (old ++ chunk) _ (start + len) (omega (arith, e, long, length-append old chunk))) in
    let same : turned ≡ old ++ (head ++ chunk) = t ∙ rw (middle, last, front) refl in
    let as_long : length turned ≡ length whole = omega (arith, ap length same, ap length split, length-append old (head ++ chunk), length-append head chunk, length-append old (chunk ++ head), length-append chunk head) in
    take_at turned (drop (length turned) whole) n (as_long ∙ sym l) ∙ same ∙ ap (λ (t : List ℕ). old ++ t) (append_assoc (varint (8 * number + 2)) (varint (length chunk)) chunk)

pub chunks_follow_heads : ChunksFollowHeads
unfolding field_spelling chunk_head
chunks_follow_heads number chunk = sym (append_assoc (varint (8 * number + 2)) (varint (length chunk)) chunk)
