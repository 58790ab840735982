-- Whole streams.
use Rattle.std.proofs.Common.{◌≡◌, ℕ, ◌+◌, ◌-◌, inl, inr, Option, Result, List, [], ◌∷◌, ◌++◌, length, take, drop, slice_range, refl, sym, ap, ◌∙◌, subst, arith, append_assoc}
use Rattle.std.specs.List.{All, AllByRecursion, flat_map}
use Rattle.std.proofs.lemmas.Grind.{flat_map-append}
use Rattle.std.proofs.Math.Seq.{take-length}
use Rattle.std.proofs.lemmas.List.{length-drop, take_at, drop_at, drop-drop}
use Rattle.std.proofs.lemmas.List.Elements.{recursion_from_All, All-from_recursion, All-append}
use Rattle.scan_base.specs.declared.fault.Fault.{Fault}
use Rattle.ipc_stream.specs.declared.message.IpcMessage.{IpcMessage}
use Rattle.ipc_stream.specs.declared.frame.Frame.{Frame}
use Rattle.ipc_stream.specs.Stream.{announced, frame, ClaimsBody, IsMessage, IsEnd, Framed, IsStream}
use Rattle.ipc_stream.specs.inside.Front.{IsStuck, message_at, IsFound, FindsFrame}
use Rattle.ipc_stream.proofs.Claims.{claims_one}
use Rattle.ipc_stream.proofs.Fronts.{announced_one}

-- two lists that begin with as many elements
split_one : (a b x y : List ℕ) → length a ≡ length b → a ++ x ≡ b ++ y → (a ≡ b) × (x ≡ y)
split_one a b x y long e = (
  sym (take_at a x (length a) refl) ∙ ap (take (length a)) e ∙ take_at b y (length a) (sym long),
  sym (drop_at a x (length a) refl) ∙ ap (drop (length a)) e ∙ drop_at b y (length a) (sym long),
)

-- one message stands in front
frame_one : (one other : IpcMessage) (rest more : List ℕ) → IsMessage one → IsMessage other → frame one ++ rest ≡ frame other ++ more → (one ≡ other) × (rest ≡ more)
frame_one one other rest more is is' e =
    let both : announced (length one.header) ((one.header ++ one.body) ++ rest) ≡ announced (length other.header) ((other.header ++ other.body) ++ more) = e in
    let said = announced_one (length one.header) (length other.header) _ _ (let f = is.fits in omega arith) (let f = is'.fits in omega arith) both in
    let apart : one.header ++ (one.body ++ rest) ≡ other.header ++ (other.body ++ more) =
    sym (append_assoc one.header one.body rest) ∙ said.1 ∙ append_assoc other.header other.body more in
    let headers = split_one one.header other.header (one.body ++ rest) (other.body ++ more) said.0 apart in
    let claims = subst (λ (h : List ℕ). ClaimsBody h (length one.body)) headers.0 is.claims in
    let bodies = split_one one.body other.body rest more (claims_one other.header (length one.body) (length other.body) claims is'.claims) headers.1 in
    let same : one ≡ other =
    ap (λ (h : List ℕ). let m : IpcMessage = record { header = h; body = one.body } in m) headers.0
    ∙ ap (λ (b : List ℕ). let m : IpcMessage = record { header = other.header; body = b } in m) bodies.0 in
    (same, bodies.1)

-- a header has a byte
header_some : (header : List ℕ) (size : ℕ) → ClaimsBody header size → length header ≡ 0 → ⊥
header_some [] size claims e = let no = claims.root in cc
header_some (byte ∷ header) size claims e = omega arith

-- no stream ends where a message stands in front
frame_no_end : (message : IpcMessage) (rest : List ℕ) → IsMessage message → ¬ IsEnd (frame message ++ rest)
frame_no_end message rest is (inl none) = cc
frame_no_end message rest is (inr marked) =
    let both : announced (length message.header) ((message.header ++ message.body) ++ rest) ≡ announced 0 marked.0 = marked.1 in
    let said = announced_one (length message.header) 0 _ _ (let f = is.fits in omega arith) (omega arith) both in
    header_some message.header (length message.body) is.claims said.0

-- the first of some messages
first_of_all : (message : IpcMessage) (messages : List IpcMessage) (rest : List ℕ) → flat_map frame (message ∷ messages) ++ rest ≡ frame message ++ (flat_map frame messages ++ rest)
first_of_all message messages rest = append_assoc (frame message) (flat_map frame messages) rest

-- ---- at most one

one_list : (messages others : List IpcMessage) (rest left : List ℕ) → AllByRecursion IsMessage messages → AllByRecursion IsMessage others → flat_map frame messages ++ rest ≡ flat_map frame others ++ left → IsEnd rest → IsEnd left → (messages ≡ others) × (rest ≡ left)
one_list [] [] rest left are are' e ends ends' = (refl, e)
one_list [] (other ∷ others) rest left are are' e ends ends' =
    absurd (frame_no_end other (flat_map frame others ++ left) are'.0 (subst IsEnd (e ∙ first_of_all other others left) ends))
one_list (message ∷ messages) [] rest left are are' e ends ends' =
    absurd (frame_no_end message (flat_map frame messages ++ rest) are.0 (subst IsEnd (sym e ∙ first_of_all message messages rest) ends'))
one_list (message ∷ messages) (other ∷ others) rest left are are' e ends ends' =
    let apart = sym (first_of_all message messages rest) ∙ e ∙ first_of_all other others left in
    let firsts = frame_one message other (flat_map frame messages ++ rest) (flat_map frame others ++ left) are.0 are'.0 apart in
    let more = one_list messages others rest left are.1 are'.1 firsts.1 ends ends' in
    (ap (λ (m : IpcMessage). m ∷ messages) firsts.0 ∙ ap (λ (ms : List IpcMessage). other ∷ ms) more.0, more.1)

pub at_most_one : (stream : List ℕ) (messages others : List IpcMessage) (rest left : List ℕ) → Framed stream messages rest → Framed stream others left → (messages ≡ others) × (rest ≡ left)
at_most_one stream messages others rest left f g =
    one_list messages others rest left (recursion_from_All IsMessage messages f.each) (recursion_from_All IsMessage others g.each) (sym f.whole ∙ g.whole) f.ends g.ends

-- a slice from a place on is what is left after it
rest_whole : (bytes : List ℕ) (at : ℕ) → slice_range bytes at (length bytes) ≡ drop at bytes
rest_whole bytes at = ap (λ (n : ℕ). take n (drop at bytes)) (sym (length-drop at bytes)) ∙ take-length (drop at bytes)

pub rest_long : (bytes : List ℕ) (at : ℕ) → length (slice_range bytes at (length bytes)) ≡ length bytes - at
rest_long bytes at = ap length (rest_whole bytes at) ∙ length-drop at bytes

-- ---- a stream, cut so far

-- a stream is these messages, and then what is left of it
pub record Reached (stream : List ℕ) (messages : List IpcMessage) (left : List ℕ) : Type 0 where
  pub whole : stream ≡ flat_map frame messages ++ left
  pub each : All IsMessage messages

-- one more message
pub reached_more : (stream : List ℕ) (messages : List IpcMessage) (left : List ℕ) (found : Frame) → Reached stream messages left → IsFound left found → Reached stream (messages ++ (message_at left 0 found ∷ [])) (drop found.end left)
reached_more stream messages left found r is =
    let message = message_at left 0 found in
    let rest = drop found.end left in
    let one : flat_map frame (message ∷ []) ++ rest ≡ left = first_of_all message [] rest ∙ sym is.whole in
    record {
      whole = r.whole
          ∙ ap (λ (x : List ℕ). flat_map frame messages ++ x) (sym one)
          ∙ sym (append_assoc (flat_map frame messages) (flat_map frame (message ∷ [])) rest)
          ∙ ap (λ (x : List ℕ). x ++ rest) (sym (flat_map-append frame messages (message ∷ [])));
      each = All-append IsMessage messages (message ∷ []) r.each (All-from_recursion IsMessage (message ∷ []) (is.fits, tt));
    }

pub reached_slice : (stream : List ℕ) (messages : List IpcMessage) (left : List ℕ) (found : Frame) → Reached stream messages left → IsFound left found → Reached stream (messages ++ (message_at left 0 found ∷ [])) (slice_range left found.end (length left))
reached_slice stream messages left found r is =
    subst (λ (rest : List ℕ). Reached stream (messages ++ (message_at left 0 found ∷ [])) rest) (sym (rest_whole left found.end)) (reached_more stream messages left found r is)

-- where what is left is stuck, there are no messages

none_left : (done messages : List IpcMessage) (left rest : List ℕ) → AllByRecursion IsMessage done → AllByRecursion IsMessage messages → flat_map frame done ++ left ≡ flat_map frame messages ++ rest → IsEnd rest → IsStuck left → ⊥
none_left [] [] left rest are are' e ends stuck = stuck.no_end (subst IsEnd (sym e) ends)
none_left [] (message ∷ messages) left rest are are' e ends stuck =
    stuck.no_message message (flat_map frame messages ++ rest) are'.0 (e ∙ first_of_all message messages rest)
none_left (first ∷ done) [] left rest are are' e ends stuck =
    frame_no_end first (flat_map frame done ++ left) are.0 (subst IsEnd (sym e ∙ first_of_all first done left) ends)
none_left (first ∷ done) (message ∷ messages) left rest are are' e ends stuck =
    let apart = sym (first_of_all first done left) ∙ e ∙ first_of_all message messages rest in
    let firsts = frame_one first message (flat_map frame done ++ left) (flat_map frame messages ++ rest) are.0 are'.0 apart in
    none_left done messages left rest are.1 are'.1 firsts.1 ends stuck

pub reached_stuck : (stream : List ℕ) (messages : List IpcMessage) (left : List ℕ) → Reached stream messages left → IsStuck left → ¬ IsStream stream
reached_stuck stream messages left r stuck is =
    none_left messages is.messages left is.rest (recursion_from_All IsMessage messages r.each) (recursion_from_All IsMessage is.messages is.framed.each) (sym r.whole ∙ is.framed.whole) is.framed.ends stuck

-- ---- counted from the beginning of the stream

-- a cut of what is left is a cut of the stream
cut_there : (stream : List ℕ) (at from to : ℕ) → slice_range (drop at stream) from (0 + to) ≡ slice_range stream (at + from) (at + to)
cut_there stream at from to =
    let count : (0 + to) - from ≡ (at + to) - (at + from) = omega arith in
    ap (λ (n : ℕ). take n (drop from (drop at stream))) count
    ∙ ap (λ (x : List ℕ). take ((at + to) - (at + from)) x) (drop-drop from at stream)

-- the message in front of what is left lies in the stream
pub message_there : (stream : List ℕ) (at : ℕ) (found : Frame) → message_at (drop at stream) 0 found ≡ message_at stream at found
message_there stream at found =
    let start : 0 + found.header_end ≡ found.header_end = omega arith in
    let header = cut_there stream at 8 found.header_end in
    let body = ap (λ (n : ℕ). slice_range (drop at stream) n (0 + found.end)) start ∙ cut_there stream at found.header_end found.end in
    ap (λ (h : List ℕ). let m : IpcMessage = record { header = h; body = (message_at (drop at stream) 0 found).body } in m) header
    ∙ ap (λ (b : List ℕ). let m : IpcMessage = record { header = (message_at stream at found).header; body = b } in m) body

-- what stands in front of a slice stands in front of what is left
pub finds_there : (slice stream : List ℕ) (at : ℕ) (found : Result (Option Frame) Fault) → slice ≡ stream → FindsFrame (slice_range slice at (length slice)) found → FindsFrame (drop at stream) found
finds_there slice stream at found same finds =
    let e : slice_range slice at (length slice) ≡ drop at stream = rest_whole slice at ∙ ap (λ (x : List ℕ). drop at x) same in
    subst (λ (x : List ℕ). FindsFrame x found) e finds

-- one more message, where it lies in the stream
pub reached_there : (stream : List ℕ) (messages next : List IpcMessage) (message : IpcMessage) (at : ℕ) (found : Frame) → next ≡ messages ++ (message ∷ []) → message ≡ message_at stream at found
    → Reached stream messages (drop at stream) → IsFound (drop at stream) found → Reached stream next (drop (at + found.end) stream)
reached_there stream messages next message at found pushed is r there =
    let same : messages ++ (message_at (drop at stream) 0 found ∷ []) ≡ next =
    ap (λ (m : IpcMessage). messages ++ (m ∷ [])) (message_there stream at found ∙ sym is) ∙ sym pushed in
    let named = subst (λ (all : List IpcMessage). Reached stream all (drop found.end (drop at stream))) same (reached_more stream messages (drop at stream) found r there) in
    subst (λ (rest : List ℕ). Reached stream next rest) (drop-drop found.end at stream) named
