-- A stream that breaks off.
use Rattle.std.proofs.Common.{◌≡◌, inl, inr, ℕ, List, [], ◌∷◌, ◌++◌, All, Option, refl, ap, ◌∙◌, append_assoc, length, arith}
use Rattle.std.specs.List.{flat_map}
use Rattle.std.proofs.lemmas.List.{length-append}
use Rattle.arrow_types.specs.declared.schema.Schema.{Schema}
use Rattle.ipc_batch.specs.SaidRows.{Rows}
use Rattle.ipc_stream.specs.declared.message.IpcMessage.{IpcMessage}
use Rattle.ipc_stream.specs.Stream.{announced, frame, IsEnd, IsMessage, IsStream}
use Rattle.ipc_stream.proofs.Fronts.{announced_one}
use Rattle.ipc_stream.proofs.Streams.{reached_stuck}
use Rattle.row_stream.specs.Stream.{BreaksOff, SaysSome, unfinished}

-- the four bytes that come of the eight
abbrev some_zeros : List ℕ
some_zeros = 0 ∷ 0 ∷ 0 ∷ 0 ∷ []

-- neither an end nor a message stands there
unfinished_no_end : ¬ IsEnd unfinished
unfinished_no_end (inl none) = cc
unfinished_no_end (inr marked) =
    let both : announced 8 some_zeros ≡ announced 0 marked.0 = marked.1 in
    let said = announced_one 8 0 some_zeros marked.0 (omega arith) (omega arith) both in
    let zero_is = said.0 in
    omega arith

unfinished_no_message : (message : IpcMessage) (rest : List ℕ) → IsMessage message → ¬ (unfinished ≡ frame message ++ rest)
unfinished_no_message message rest is e =
    let both : announced 8 some_zeros ≡ announced (length message.header) ((message.header ++ message.body) ++ rest) = e in
    let said = announced_one 8 (length message.header) some_zeros ((message.header ++ message.body) ++ rest) (omega arith) (let f = is.fits in omega arith) both in
    let eight = said.0 in
    let four : 4 ≡ length ((message.header ++ message.body) ++ rest) = ap length said.1 in
    omega (arith, eight, four, length-append (message.header ++ message.body) rest, length-append message.header message.body)

-- after whole messages the start of one more is no stream
pub unfinished_refused : (messages : List IpcMessage) → All IsMessage messages → ¬ IsStream (flat_map frame messages ++ unfinished)
unfinished_refused messages each =
    reached_stuck (flat_map frame messages ++ unfinished) messages unfinished (record { whole = refl; each = each }) (record { no_end = unfinished_no_end; no_message = unfinished_no_message })

-- it says some of more rows, too
says_before : (schema : Schema) (all rows others : Rows) (stream : List ℕ) → all ≡ rows ++ others → SaysSome schema rows stream → SaysSome schema all stream
says_before schema all rows others stream splits says = record {
  some = says.some;
  others = says.others ++ others;
  splits = splits ∙ ap (λ (l : Rows). l ++ others) says.splits ∙ append_assoc says.some says.others others;
  rest = says.rest;
  says = says.says;
}

pub breaks_before : (schema : Schema) (all rows others : Rows) (a b : Option (List ℕ)) (failed failed' : ℕ) → all ≡ rows ++ others → BreaksOff schema rows a b failed failed' → BreaksOff schema all a b failed failed'
breaks_before schema all rows others a b failed failed' splits (stream, is, wrote) =
    (stream, record { stream = is.stream; says = says_before schema all rows others is.stream splits is.says; ends = is.ends; refused = is.refused }, wrote)
