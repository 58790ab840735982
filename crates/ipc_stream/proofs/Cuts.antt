-- The parts of messages, where they stand in a stream.
use Rattle.std.proofs.Common.{◌≡◌, ℕ, List, [], ◌∷◌, ◌++◌, length, refl, sym, ap, ◌∙◌, subst, append_assoc}
use Rattle.std.specs.List.{All, AllByRecursion, flat_map}
use Rattle.std.proofs.lemmas.List.Elements.{All-from_recursion}
use Rattle.flatbuf.specs.Layout.{Stands}
use Rattle.flatbuf.specs.Block.{little, padded}
use Rattle.arrow_schema.specs.WrittenHeader.{encapsulated}
use Rattle.ipc_stream.specs.declared.message.IpcMessage.{IpcMessage}
use Rattle.ipc_stream.specs.Stream.{announced, frame, IsCut}
use Rattle.ipc_stream.proofs.Streams.{Reached}

-- the parts of the first of some messages
first_stands : (before : List ℕ) (message : IpcMessage) (behind : List ℕ) → Stands (message.header ++ message.body) (before ++ (frame message ++ behind)) (length (before ++ announced (length message.header) []))
first_stands before message behind = record {
  before = before ++ announced (length message.header) [];
  after = behind;
  whole = sym (append_assoc before (announced (length message.header) []) ((message.header ++ message.body) ++ behind));
  place = refl;
}

-- the parts of each of some messages
cuts : (before : List ℕ) (messages : List IpcMessage) (rest : List ℕ) → AllByRecursion (IsCut (before ++ (flat_map frame messages ++ rest))) messages
cuts before [] rest = tt
cuts before (message ∷ messages) rest =
    let behind = flat_map frame messages ++ rest in
    let stream = before ++ (flat_map frame (message ∷ messages) ++ rest) in
    let apart : before ++ (frame message ++ behind) ≡ stream = ap (λ (x : List ℕ). before ++ x) (sym (append_assoc (frame message) (flat_map frame messages) rest)) in
    let place = length (before ++ announced (length message.header) []) in
    let on : (before ++ frame message) ++ behind ≡ stream = append_assoc before (frame message) behind ∙ apart in (
      record { place = place; stands = subst (λ (s : List ℕ). Stands (message.header ++ message.body) s place) apart (first_stands before message behind) },
      subst (λ (s : List ℕ). AllByRecursion (IsCut s) messages) on (cuts (before ++ frame message) messages rest),
    )

-- each message that was cut so far is a cut of the stream
pub parts_cut : (stream : List ℕ) (messages : List IpcMessage) (left : List ℕ) → Reached stream messages left → All (IsCut stream) messages
parts_cut stream messages left r =
    subst (λ (s : List ℕ). All (IsCut s) messages) (sym r.whole) (All-from_recursion (IsCut (flat_map frame messages ++ left)) messages (cuts [] messages left))

-- a header in IPC form
pub frame_written : (header body : List ℕ) → encapsulated header ++ body ≡ frame (record { header = padded header; body = body })
unfolding encapsulated little
frame_written header body = refl
