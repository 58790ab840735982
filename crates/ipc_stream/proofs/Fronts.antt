-- What a message in front says of the bytes.
use Rattle.std.proofs.Common.{◌≡◌, ℕ, ◌+◌, ◌-◌, ◌<◌, ◌≤◌, ◌^◌, inl, inr, List, [], ◌++◌, length, take, drop, slice_range, refl, sym, ap, ◌∙◌, subst, arith, append_assoc}
use Rattle.std.specs.Int.{w32, to_le_bytes, from_le_bytes}
use Rattle.std.proofs.lemmas.Nat.{from_le_bytes-to_le_bytes_4}
use Rattle.std.proofs.lemmas.List.{length-append, length-drop, take_at, length-take-le, take-append-drop, drop-drop}
use Rattle.ipc_stream.specs.declared.message.IpcMessage.{IpcMessage}
use Rattle.ipc_stream.specs.declared.frame.Frame.{Frame}
use Rattle.ipc_stream.specs.Stream.{announced, frame, ClaimsBody, IsMessage, IsEnd}
use Rattle.ipc_stream.specs.inside.Front.{HasLength, IsStuck, message_at, IsFound}

-- one length is announced, and one list of bytes follows
pub announced_one : (len other : ℕ) (rest more : List ℕ) → len < 2 ^ 32 → other < 2 ^ 32 → announced len rest ≡ announced other more → (len ≡ other) × (rest ≡ more)
announced_one len other rest more fits fits' e =
    let digits : to_le_bytes w32 len ≡ to_le_bytes w32 other = ap (λ (x : List ℕ). take 4 (drop 4 x)) e in
    let behind : rest ≡ more = ap (λ (x : List ℕ). drop 8 x) e in
    (sym (from_le_bytes-to_le_bytes_4 len fits) ∙ ap (from_le_bytes w32) digits ∙ from_le_bytes-to_le_bytes_4 other fits', behind)

-- where a length is announced, the stream does not end
pub no_end : (bytes : List ℕ) (len : ℕ) → HasLength bytes len → ¬ IsEnd bytes
no_end bytes len has (inl none) = let e : announced len (drop 8 bytes) ≡ [] = sym has.whole ∙ none in cc
no_end bytes len has (inr marked) =
    let e : announced len (drop 8 bytes) ≡ announced 0 marked.0 = sym has.whole ∙ marked.1 in
    let same = announced_one len 0 _ _ (let f = has.fits in omega arith) (omega arith) e in
    let zero_is = same.0 in
    let some = has.some in
    omega arith

-- what a message in front says of the bytes
record Says (bytes : List ℕ) (len : ℕ) (message : IpcMessage) (rest : List ℕ) : Type 0 where
  size : length message.header ≡ len
  behind : drop 8 bytes ≡ (message.header ++ message.body) ++ rest
  header : slice_range bytes 8 (8 + len) ≡ message.header
  long : 8 + len + length message.body ≤ length bytes

says : (bytes : List ℕ) (len : ℕ) (message : IpcMessage) (rest : List ℕ) → HasLength bytes len → IsMessage message → bytes ≡ frame message ++ rest → Says bytes len message rest
says bytes len message rest has is e =
    let both : announced len (drop 8 bytes) ≡ announced (length message.header) ((message.header ++ message.body) ++ rest) = sym has.whole ∙ e in
    let same = announced_one len (length message.header) _ _ (let f = has.fits in omega arith) (let f = is.fits in omega arith) both in
    let cut : (8 + len) - 8 ≡ length message.header = let s = same.0 in omega arith in
    let all : length (drop 8 bytes) ≡ length ((message.header ++ message.body) ++ rest) = ap length same.1 in
    record {
      size = sym same.0;
      behind = same.1;
      header = rw (cut, same.1, append_assoc message.header message.body rest) (take_at message.header (message.body ++ rest) (length message.header) refl);
      long = let s = same.0 in let l = has.long in omega (arith, length-drop 8 bytes, all, length-append (message.header ++ message.body) rest, length-append message.header message.body);
    }

-- the header of so many bytes, as it is cut
abbrev pub header_in : List ℕ → ℕ → List ℕ
header_in bytes len = slice_range bytes 8 (8 + len)

-- no message is in front whose header does not read
pub header_unread : (bytes : List ℕ) (len : ℕ) → HasLength bytes len → ((size : ℕ) → ¬ ClaimsBody (header_in bytes len) size) → IsStuck bytes
header_unread bytes len has none = record {
  no_end = no_end bytes len has;
  no_message = λ message rest is e.
      let s = says bytes len message rest has is e in
      none (length message.body) (subst (λ (h : List ℕ). ClaimsBody h (length message.body)) (sym s.header) is.claims);
}

-- bytes are their first ones, those after them and the rest
parts_join : (bytes : List ℕ) (len size : ℕ) → (take len bytes ++ take size (drop len bytes)) ++ drop size (drop len bytes) ≡ bytes
parts_join bytes len size =
    append_assoc (take len bytes) (take size (drop len bytes)) (drop size (drop len bytes))
    ∙ ap (λ (x : List ℕ). take len bytes ++ x) (take-append-drop size (drop len bytes))
    ∙ take-append-drop len bytes

-- where the header and the body are cut, and the rest
header_cut : (bytes : List ℕ) (len : ℕ) → slice_range bytes 8 (0 + (8 + len)) ≡ take len (drop 8 bytes)
header_cut bytes len = ap (λ (n : ℕ). take n (drop 8 bytes)) (omega arith)

body_cut : (bytes : List ℕ) (len size : ℕ) → slice_range bytes (0 + (8 + len)) (0 + (8 + len + size)) ≡ take size (drop len (drop 8 bytes))
body_cut bytes len size =
    let count : (0 + (8 + len + size)) - (0 + (8 + len)) ≡ size = omega arith in
    let from : 0 + (8 + len) ≡ 8 + len = omega arith in
    ap (λ (n : ℕ). take n (drop (0 + (8 + len)) bytes)) count
    ∙ ap (λ (n : ℕ). take size (drop n bytes)) from
    ∙ ap (λ (x : List ℕ). take size x) (sym (drop-drop len 8 bytes))

rest_cut : (bytes : List ℕ) (len size : ℕ) → drop (8 + len + size) bytes ≡ drop size (drop len (drop 8 bytes))
rest_cut bytes len size = sym (ap (λ (x : List ℕ). drop size x) (drop-drop len 8 bytes) ∙ drop-drop size (8 + len) bytes)

-- and else there is one
pub found_there : (bytes : List ℕ) (len size : ℕ) → HasLength bytes len → len ≤ length bytes - 8 → ClaimsBody (header_in bytes len) size → size ≤ length bytes - (8 + len)
    → IsFound bytes (record { header_end = 8 + len; end = 8 + len + size })
found_there bytes len size has fits claims room =
    let there : Frame = record { header_end = 8 + len; end = 8 + len + size } in
    let message = message_at bytes 0 there in
    let long = has.long in
    let left : length (drop 8 bytes) ≡ length bytes - 8 = length-drop 8 bytes in
    let left' : length (drop len (drop 8 bytes)) ≡ length (drop 8 bytes) - len = length-drop len (drop 8 bytes) in
    let header_long : length message.header ≡ len = ap length (header_cut bytes len) ∙ length-take-le len (drop 8 bytes) (omega arith) in
    let body_long : length message.body ≡ size = ap length (body_cut bytes len size) ∙ length-take-le size (drop len (drop 8 bytes)) (omega arith) in
    let same : header_in bytes len ≡ message.header = ap (λ (n : ℕ). slice_range bytes 8 n) (omega arith) in
    let joined : (message.header ++ message.body) ++ drop there.end bytes ≡ drop 8 bytes =
    ap (λ (x : List ℕ). (x ++ message.body) ++ drop there.end bytes) (header_cut bytes len)
    ∙ ap (λ (x : List ℕ). (take len (drop 8 bytes) ++ x) ++ drop there.end bytes) (body_cut bytes len size)
    ∙ ap (λ (x : List ℕ). (take len (drop 8 bytes) ++ take size (drop len (drop 8 bytes))) ++ x) (rest_cut bytes len size)
    ∙ parts_join (drop 8 bytes) len size in
    let claimed : ClaimsBody message.header size = subst (λ (h : List ℕ). ClaimsBody h size) same claims in
    record {
      within = record { starts = omega arith; ordered = omega arith; within = omega arith };
      fits = record { claims = subst (λ (n : ℕ). ClaimsBody message.header n) (sym body_long) claimed; fits = let f = has.fits in omega arith };
      whole = has.whole ∙ ap (λ (n : ℕ). announced n (drop 8 bytes)) (sym header_long) ∙ ap (λ (x : List ℕ). announced (length message.header) x) (sym joined);
    }
