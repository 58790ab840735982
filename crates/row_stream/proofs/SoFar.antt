-- What was sent so far of a stream.
use Rattle.std.proofs.Common.{◌≡◌, inl, inr, ℕ, List, [], ◌∷◌, ◌++◌, map, All, Option, Result, Ok, Err, refl, sym, ap, subst, ◌∙◌, append-nil, append_assoc}
use Rattle.std.specs.List.{flat_map}
use Rattle.std.specs.Io.KnownBytes.{Appends}
use Rattle.std.proofs.KnownBytes.{Appends-trans}
use Rattle.std.proofs.lemmas.Grind.{flat_map-append}
use Rattle.std.proofs.lemmas.List.Elements.{All-append, All-nil, All-cons}
use Rattle.arrow_types.specs.declared.schema.Schema.{Schema}
use Rattle.arrays.specs.Batch.{BatchAt, rows_of}
use Rattle.grpc_frame.specs.Ends.{AppendsBeginning, CountsFailure, Writes}
use Rattle.grpc_frame.specs.Sending.{Sent, NotSent}
use Rattle.grpc_frame.proofs.Growing.{beginning_of_content}
use Rattle.grpc_frame.proofs.Sending.{both_sent, second_not_sent, begun_alone}
use Rattle.ipc_batch.specs.SaidRows.{Rows, Says}
use Rattle.ipc_stream.specs.declared.message.IpcMessage.{IpcMessage}
use Rattle.ipc_stream.specs.Stream.{frame, IsMessage, end_marker}
use Rattle.row_stream.specs.Stream.{sent_in, AreDressedBehind, BreaksOff, HasShortBody, StreamSays, IsWhole, WritesBeginning, WritesCounted, WritesStream, unfinished}
use Rattle.row_stream.specs.Writing.{SoFar}
use Rattle.row_stream.specs.inside.Cuts.{SayBatch}
use Rattle.row_stream.specs.inside.Frames.{SaysSchema}
use Rattle.row_stream.proofs.Broken.{unfinished_refused}
use Rattle.row_stream.proofs.Dressed.{batch_dressed, none_behind, stands_behind}
use Rattle.row_stream.proofs.Messages.{first_said, more_said, schema_short}

-- ---- messages

-- these messages say this, and may stand in a stream
record Say (messages : List IpcMessage) (schema : Schema) (rows : Rows) : Type 0 where
  each : All IsMessage messages
  said : Says (map sent_in messages) schema rows
  dressed : AreDressedBehind schema (map sent_in messages) rows
  short : All (HasShortBody schema) messages

-- a schema alone
say_schema : (message : IpcMessage) (schema : Schema) → IsMessage message → SaysSchema schema (sent_in message) → Say (message ∷ []) schema []
say_schema message schema fits tells = record {
  each = All-cons IsMessage message [] fits (All-nil IsMessage);
  said = first_said message schema tells;
  dressed = none_behind schema message;
  short = All-cons (HasShortBody schema) message [] (schema_short message schema tells) (All-nil (HasShortBody schema));
}

-- a batch more
say_more : (front more : List IpcMessage) (schema : Schema) (rows : Rows) (batch : BatchAt) → Say front schema rows → SayBatch (HasShortBody schema) schema batch more → Say (front ++ more) schema (rows ++ rows_of batch)
say_more front more schema rows batch say one =
    let dressed = batch_dressed schema batch more one in
    record {
      each = All-append IsMessage front more say.each one.each;
      said = more_said front more schema rows (rows_of batch) dressed say.said;
      dressed = stands_behind schema front more rows (rows_of batch) say.dressed dressed;
      short = All-append (HasShortBody schema) front more say.short one.short;
    }

-- messages that were sent
say_so_far : (schema : Schema) (rows : Rows) (a b : Option (List ℕ)) (waiting : List ℕ) (so : SoFar schema rows a b waiting) → Say so.messages schema rows
say_so_far schema rows a b waiting so = record { each = so.each; said = so.said; dressed = so.dressed; short = so.short }

so_far : (messages : List IpcMessage) (schema : Schema) (rows : Rows) (a b : Option (List ℕ)) (waiting : List ℕ) → Say messages schema rows → Sent a b [] waiting (flat_map frame messages) → SoFar schema rows a b waiting
so_far messages schema rows a b waiting say sent = record { messages = messages; each = say.each; said = say.said; dressed = say.dressed; short = say.short; sent = sent }

-- with no more after them they are a stream
messages_alone : (messages : List IpcMessage) (schema : Schema) (rows : Rows) → Say messages schema rows → StreamSays (flat_map frame messages) [] schema rows
messages_alone messages schema rows say = record {
  messages = messages;
  framed = record { whole = sym (append-nil (flat_map frame messages)); each = say.each; ends = inl refl };
  said = say.said;
  dressed = say.dressed;
  short = say.short;
}

-- ---- what waited was written, and bytes after it

written_behind : (a b c : Option (List ℕ)) (mid bytes part : List ℕ) → Sent a b [] mid bytes → Appends b c (mid ++ part) → Appends a c (bytes ++ part)
written_behind a b c mid bytes part sent wrote =
    subst (Appends a c) (sym (append_assoc sent.written mid part) ∙ ap (λ (l : List ℕ). l ++ part) sent.whole) (Appends-trans a b c sent.written (mid ++ part) sent.wrote wrote)

begun_behind : (a b c : Option (List ℕ)) (mid bytes part : List ℕ) → Sent a b [] mid bytes → AppendsBeginning b c (mid ++ part) → AppendsBeginning a c (bytes ++ part)
begun_behind a b c mid bytes part sent wrote =
    subst (AppendsBeginning a c) (sym (append_assoc sent.written mid part) ∙ ap (λ (l : List ℕ). l ++ part) sent.whole) (beginning_of_content a b c sent.written (mid ++ part) sent.wrote wrote)

-- what was gathered was written with bytes that were gathered after it
pub flushed_behind : {A E : Type 0} (r : Result A E) (a b c : Option (List ℕ)) (before mid part : List ℕ) → Sent a b before mid part → Writes r b c mid → Writes r a c (before ++ part)
flushed_behind (Ok x) a b c before mid part sent wrote = subst (Appends a c) sent.whole (Appends-trans a b c sent.written mid sent.wrote wrote)
flushed_behind (Err e) a b c before mid part sent wrote = subst (AppendsBeginning a c) sent.whole (beginning_of_content a b c sent.written mid sent.wrote wrote)

-- whichever came of it
pub wrote_either : {A E : Type 0} (r : Result A E) (a b : Option (List ℕ)) (bytes : List ℕ) (failed failed' : ℕ) → Writes r a b bytes → CountsFailure r failed failed' → WritesCounted a b bytes failed failed'
wrote_either (Ok x) a b bytes failed failed' wrote counted = inl (wrote, counted)
wrote_either (Err e) a b bytes failed failed' wrote counted = inr (wrote, counted)

-- ---- the schema

pub begun : (schema : Schema) (message : IpcMessage) (a b : Option (List ℕ)) (before : List ℕ) → before ≡ [] → IsMessage message → SaysSchema schema (sent_in message) → Appends a b (before ++ frame message) → SoFar schema [] a b []
begun schema message a b before none fits tells wrote =
    so_far (message ∷ []) schema [] a b [] (say_schema message schema fits tells)
    (record { written = frame message; wrote = subst (λ (l : List ℕ). Appends a b (l ++ frame message)) none wrote; whole = refl })

pub not_begun : (schema : Schema) (message : IpcMessage) (a b : Option (List ℕ)) (before : List ℕ) → before ≡ [] → IsMessage message → SaysSchema schema (sent_in message) → AppendsBeginning a b (before ++ frame message) → WritesBeginning schema [] a b
not_begun schema message a b before none fits tells wrote =
    let says = messages_alone (message ∷ []) schema [] (say_schema message schema fits tells) in
    let bytes : before ++ frame message ≡ frame message ++ [] = ap (λ (l : List ℕ). l ++ frame message) none ∙ sym (append-nil (frame message)) in
    (flat_map frame (message ∷ []), record { some = []; others = []; splits = refl; rest = []; says = says }, subst (AppendsBeginning a b) bytes wrote)

-- ---- a batch more

pub went_on : (schema : Schema) (rows : Rows) (batch : BatchAt) (a b c : Option (List ℕ)) (mid after : List ℕ) → SoFar schema rows a b mid
    → (messages : List IpcMessage) → SayBatch (HasShortBody schema) schema batch messages → Sent b c mid after (flat_map frame messages) → SoFar schema (rows ++ rows_of batch) a c after
went_on schema rows batch a b c mid after so messages one sent =
    so_far (so.messages ++ messages) schema (rows ++ rows_of batch) a c after (say_more so.messages messages schema rows batch (say_so_far schema rows a b mid so) one)
    (subst (Sent a c [] after) (sym (flat_map-append frame so.messages messages)) (both_sent a b c [] mid after (flat_map frame so.messages) (flat_map frame messages) so.sent sent))

-- what was sent so far breaks off
pub broken_here : (schema : Schema) (rows some others : Rows) (a b c : Option (List ℕ)) (mid : List ℕ) (failed failed' : ℕ) → rows ≡ some ++ others → SoFar schema some a b mid → WritesCounted b c (mid ++ unfinished) failed failed'
    → BreaksOff schema rows a c failed failed'
broken_here schema rows some others a b c mid failed failed' splits so wrote = (
  flat_map frame so.messages ++ unfinished,
  record {
    stream = flat_map frame so.messages;
    says = record { some = some; others = others; splits = splits; rest = []; says = messages_alone so.messages schema some (say_so_far schema some a b mid so) };
    ends = refl;
    refused = unfinished_refused so.messages so.each;
  },
  by wrote,
)
  where
    by : WritesCounted b c (mid ++ unfinished) failed failed' → WritesCounted a c (flat_map frame so.messages ++ unfinished) failed failed'
    by (inl whole) = inl (written_behind a b c mid (flat_map frame so.messages) unfinished so.sent whole.0, whole.1)
    by (inr part) = inr (begun_behind a b c mid (flat_map frame so.messages) unfinished so.sent part.0, part.1)

-- a batch more of which a write failed
pub stopped : (schema : Schema) (rows some others : Rows) (batch : BatchAt) (a b c : Option (List ℕ)) (mid after : List ℕ) → rows ≡ (some ++ rows_of batch) ++ others → SoFar schema some a b mid
    → (messages : List IpcMessage) → SayBatch (HasShortBody schema) schema batch messages → NotSent b c mid after (flat_map frame messages) → WritesBeginning schema rows a c
stopped schema rows some others batch a b c mid after splits so messages one failed =
    let all = so.messages ++ messages in
    let says = messages_alone all schema (some ++ rows_of batch) (say_more so.messages messages schema some batch (say_so_far schema some a b mid so) one) in
    let wrote : AppendsBeginning a c (flat_map frame so.messages ++ flat_map frame messages) =
    begun_alone a c [] after _ refl (second_not_sent a b c [] mid after (flat_map frame so.messages) (flat_map frame messages) so.sent failed) in
    (flat_map frame all, record { some = some ++ rows_of batch; others = others; splits = splits; rest = []; says = says }, subst (AppendsBeginning a c) (sym (flat_map-append frame so.messages messages)) wrote)

-- ---- the end

-- messages and the end marker are the whole stream
ended : (schema : Schema) (rows : Rows) (a b : Option (List ℕ)) (mid : List ℕ) (so : SoFar schema rows a b mid) → IsWhole schema rows (flat_map frame so.messages ++ end_marker)
ended schema rows a b mid so = record {
  messages = so.messages;
  framed = record { whole = refl; each = so.each; ends = inr ([], refl) };
  said = so.said;
  dressed = so.dressed;
  short = so.short;
}

-- it was written, or a beginning of it
pub ended_by : {E : Type 0} (result : Result (Unit {0}) E) (schema : Schema) (rows : Rows) (a b c : Option (List ℕ)) (mid : List ℕ) → SoFar schema rows a b mid → Writes result b c (mid ++ end_marker) → WritesStream result schema rows a c
ended_by (Ok done) schema rows a b c mid so wrote =
    (flat_map frame so.messages ++ end_marker, ended schema rows a b mid so, written_behind a b c mid (flat_map frame so.messages) end_marker so.sent wrote)
ended_by (Err fault) schema rows a b c mid so wrote = (
  flat_map frame so.messages ++ end_marker,
  record { some = rows; others = []; splits = sym (append-nil rows); rest = end_marker; says = ended schema rows a b mid so },
  begun_behind a b c mid (flat_map frame so.messages) end_marker so.sent wrote,
)
