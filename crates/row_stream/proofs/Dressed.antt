-- Batches after the dictionaries of their texts, as messages of a stream.
use Rattle.std.proofs.Common.{◌≡◌, ◌≤◌, ◌<◌, ◌^◌, inl, inr, ℕ, ◌+◌, List, [], ◌∷◌, ◌++◌, length, map, Option, Some, None, Result, Ok, Err, IfOk, IfSome, refl, sym, ap, subst, ◌∙◌, append-nil, arith}
use Rattle.std.specs.Prelude.{All}
use Rattle.std.specs.List.{flat_map, AllZip}
use Rattle.std.proofs.lemmas.Grind.{flat_map-append}
use Rattle.std.proofs.lemmas.List.{map-append}
use Rattle.std.proofs.lemmas.List.Elements.{All-append, All-nil, All-cons, All-head, All-tail}
use Rattle.scan_base.specs.declared.value.Value.{Value}
use Rattle.scan_base.specs.declared.value.Value.TheVariants as value
use Rattle.arrow_types.specs.declared.schema.Schema.{Schema}
use Rattle.arrays.specs.Batch.{BatchAt, rows_of}
use Rattle.arrays.specs.Firsts.{firsts}
use Rattle.ipc_batch.specs.declared.writer.WrittenMessage.{WrittenMessage}
use Rattle.ipc_batch.specs.DressedBatches.{cells_in, coded_from, SaysWhole, AddsRows, Dressing, IsDressed, AreDressed}
use Rattle.ipc_batch.specs.SaidRows.{Sent, Rows}
use Rattle.ipc_batch.specs.MessageView.{written_seen}
use Rattle.ipc_batch.specs.WrittenMessages.{most_header_bytes}
use Rattle.dictionary_answers.specs.declared.dressed_batch.DressedBatch.{DressedBatch}
use Rattle.dictionary_answers.specs.Dress.{ClaimsAll, IsDressedBatch}
use Rattle.dictionary_answers.specs.Lengths.{bodies_length}
use Rattle.ipc_stream.specs.declared.message.IpcMessage.{IpcMessage}
use Rattle.ipc_stream.specs.Stream.{frame, IsMessage}
use Rattle.row_stream.specs.Stream.{sent_in, most_body_bytes, AreDressedBehind, HasShortBody}
use Rattle.row_stream.specs.inside.Cuts.{AreBehind, HasBodyWithin, SayBatch}
use Rattle.row_stream.specs.inside.Frames.{as_message, written_frame}
use Rattle.row_stream.proofs.Messages.{claims, length-rows_of}

-- ---- messages that are written

-- as messages of a stream they are the same
seen_again : (messages : List WrittenMessage) → map sent_in (map as_message messages) ≡ map written_seen messages
seen_again [] = refl
seen_again (message ∷ messages) = ap (λ (l : List Sent). written_seen message ∷ l) (seen_again messages)

-- with short headers and bodies they may stand in one
all_fit : (messages : List WrittenMessage) → All ClaimsAll (map written_seen messages) → All (λ (sent : Sent). length sent.header ≤ most_header_bytes) (map written_seen messages)
    → bodies_length (map written_seen messages) < 2 ^ 31 → All IsMessage (map as_message messages)
all_fit [] claim short few = All-nil IsMessage
all_fit (message ∷ messages) claim short few =
    let rest = map written_seen messages in
    let one : ClaimsAll (written_seen message) = All-head ClaimsAll (written_seen message) rest claim in
    let header : length message.header.items ≤ most_header_bytes = All-head (λ (sent : Sent). length sent.header ≤ most_header_bytes) (written_seen message) rest short in
    All-cons IsMessage (as_message message) (map as_message messages)
    (claims message.header.items message.body.items one.message one.found one.claimed (omega (arith, header)) (omega (arith, few)))
    (all_fit messages (All-tail ClaimsAll (written_seen message) rest claim) (All-tail (λ (sent : Sent). length sent.header ≤ most_header_bytes) (written_seen message) rest short) (omega (arith, few)))

-- each body is no longer than all
all_within : (messages : List IpcMessage) (room : ℕ) → bodies_length (map sent_in messages) ≤ room → All (HasBodyWithin room) messages
all_within [] room few = All-nil (HasBodyWithin room)
all_within (message ∷ messages) room few =
    All-cons (HasBodyWithin room) message messages (omega (arith, few)) (all_within messages room (omega (arith, few)))

-- what is written of them in their frames
frames_again : (messages : List WrittenMessage) → flat_map frame (map as_message messages) ≡ flat_map written_frame messages
frames_again [] = refl
frames_again (message ∷ messages) = ap (λ (l : List ℕ). written_frame message ++ l) (frames_again messages)

pub parcel_frames : (messages : List WrittenMessage) (last : IpcMessage) → flat_map written_frame messages ++ frame last ≡ flat_map frame (map as_message messages ++ last ∷ [])
parcel_frames messages last =
    sym (flat_map-append frame (map as_message messages) (last ∷ []) ∙ ap (λ (l : List ℕ). flat_map frame (map as_message messages) ++ l) (append-nil (frame last))
    ∙ ap (λ (l : List ℕ). l ++ frame last) (frames_again messages))

-- their headers are short
pub headers_fit : (messages : List WrittenMessage) (last : IpcMessage) → All IsMessage (map as_message messages ++ last ∷ []) → All (λ (message : WrittenMessage). length message.header.items < 2 ^ 31) messages
headers_fit [] last all = All-nil (λ (message : WrittenMessage). length message.header.items < 2 ^ 31)
headers_fit (message ∷ messages) last all =
    let rest = map as_message messages ++ last ∷ [] in
    let one : IsMessage (as_message message) = All-head IsMessage (as_message message) rest all in
    All-cons (λ (message : WrittenMessage). length message.header.items < 2 ^ 31) message messages one.fits (headers_fit messages last (All-tail IsMessage (as_message message) rest all))

pub last_fits : (messages : List WrittenMessage) (last : IpcMessage) → All IsMessage (map as_message messages ++ last ∷ []) → IsMessage last
last_fits [] last all = All-head IsMessage last [] all
last_fits (message ∷ messages) last all = last_fits messages last (All-tail IsMessage (as_message message) (map as_message messages ++ last ∷ []) all)

-- ---- a batch that is dressed

pub say_dressed : (schema : Schema) (batch : BatchAt) (made : DressedBatch) (room : ℕ) (messages : List IpcMessage) → room < 2 ^ 31 → IsDressedBatch schema batch made
    → AreBehind (map as_message made.dictionaries.items) made.batch room messages → SayBatch (HasBodyWithin room) schema batch messages
say_dressed schema batch made room messages low is behind =
    let written = made.dictionaries.items in
    let dictionaries = map as_message written in
    let last = behind.last in
    let seen : map sent_in dictionaries ≡ map written_seen written = seen_again written in
    let long : bodies_length (map sent_in dictionaries) ≡ bodies_length (map written_seen written) = ap bodies_length seen in
    let fit : All IsMessage dictionaries = all_fit written is.claim is.short (omega (arith, behind.short, long, low)) in
    let within : All (HasBodyWithin room) dictionaries = all_within dictionaries room (omega (arith, behind.short)) in
    record {
      dictionaries = dictionaries;
      last = last;
      are = behind.are;
      each = subst (All IsMessage) (sym behind.are) (All-append IsMessage dictionaries (last ∷ []) fit (All-cons IsMessage last [] behind.fits (All-nil IsMessage)));
      dressed = record {
        coded = subst (λ (l : List Sent). AllZip (λ number sent. SaysWhole schema number (firsts (cells_in number (rows_of batch))) sent) (coded_from 0 schema.fields) l) (sym seen) is.coded;
        adds = is.adds (sent_in last) behind.says;
      };
      short = subst (All (HasBodyWithin room)) (sym behind.are)
          (All-append (HasBodyWithin room) dictionaries (last ∷ []) within (All-cons (HasBodyWithin room) last [] (omega (arith, behind.short)) (All-nil (HasBodyWithin room))));
    }

-- how long the bodies are of dictionaries and of the batch after them
pub short_behind : (messages : List WrittenMessage) (last : IpcMessage) (room left : ℕ) → bodies_length (map written_seen messages) + left ≡ room → length last.body ≤ left
    → bodies_length (map sent_in (map as_message messages)) + length last.body ≤ room
short_behind messages last room left sum short = omega (arith, ap bodies_length (seen_again messages), sum, short)

pub found_dressed : {E : Type 0} (result : Result (Option (List IpcMessage)) E) (schema : Schema) (batch : BatchAt) (made : DressedBatch) (room : ℕ) → room < 2 ^ 31 → IsDressedBatch schema batch made
    → IfOk result (λ found. IfSome found (AreBehind (map as_message made.dictionaries.items) made.batch room)) → IfOk result (λ found. IfSome found (SayBatch (HasBodyWithin room) schema batch))
found_dressed (Ok (Some messages)) schema batch made room low is behind = say_dressed schema batch made room messages low is behind
found_dressed (Ok None) schema batch made room low is behind = tt
found_dressed (Err error) schema batch made room low is behind = tt

-- with bodies that are not too long they may stand in a stream
pub say_short : (schema : Schema) (batch : BatchAt) (messages : List IpcMessage) → SayBatch (HasBodyWithin most_body_bytes) schema batch messages → SayBatch (HasShortBody schema) schema batch messages
say_short schema batch messages say = record {
  dictionaries = say.dictionaries;
  last = say.last;
  are = say.are;
  each = say.each;
  dressed = say.dressed;
  short = λ k d low. inl (say.short k d low);
}

-- ---- one row

first_of_one : (v : Value) → length (firsts (v ∷ [])) ≤ 1
first_of_one value.Null = omega arith
first_of_one (value.Bool flag) = omega arith
first_of_one (value.Int number) = omega arith
first_of_one (value.Text bytes) = omega arith

texts_of_one : (schema : Schema) (row : List Value) (numbers : List ℕ) (messages : List IpcMessage)
    → AllZip (λ number sent. SaysWhole schema number (firsts (cells_in number (row ∷ []))) sent) numbers (map sent_in messages) → All (HasShortBody schema) messages
texts_of_one schema row [] [] coded = All-nil (HasShortBody schema)
texts_of_one schema row (number ∷ numbers) (message ∷ messages) coded =
    All-cons (HasShortBody schema) message messages
    (inr (inl (record { id = number; texts = firsts (cells_in number (row ∷ [])); one = first_of_one _; says = coded.0 })))
    (texts_of_one schema row numbers messages coded.1)
texts_of_one schema row [] (message ∷ messages) coded = absurd coded
texts_of_one schema row (number ∷ numbers) [] coded = absurd coded

one_row : (rows : Rows) → length rows ≡ 1 → (row : List Value) × (rows ≡ row ∷ [])
one_row [] one = absurd (omega (arith, one))
one_row (row ∷ []) one = (row, refl)
one_row (row ∷ other ∷ rows) one = absurd (omega (arith, one))

-- so may those of one row, however long
pub say_row : (schema : Schema) (batch : BatchAt) (room : ℕ) (messages : List IpcMessage) → batch.rows ≡ 1 → SayBatch (HasBodyWithin room) schema batch messages → SayBatch (HasShortBody schema) schema batch messages
say_row schema batch room messages one say =
    let found = one_row (rows_of batch) (length-rows_of batch ∙ one) in
    let row = found.0 in
    let coded = subst (λ (rows : Rows). AllZip (λ number sent. SaysWhole schema number (firsts (cells_in number rows)) sent) (coded_from 0 schema.fields) (map sent_in say.dictionaries)) found.1 say.dressed.coded in
    let adds = subst (λ (rows : Rows). AddsRows schema rows (sent_in say.last)) found.1 say.dressed.adds in
    record {
      dictionaries = say.dictionaries;
      last = say.last;
      are = say.are;
      each = say.each;
      dressed = say.dressed;
      short = subst (All (HasShortBody schema)) (sym say.are) (All-append (HasShortBody schema) say.dictionaries (say.last ∷ [])
          (texts_of_one schema row (coded_from 0 schema.fields) say.dictionaries coded)
          (All-cons (HasShortBody schema) say.last [] (inr (inr (record { row = row; adds = adds }))) (All-nil (HasShortBody schema))));
    }

-- ---- one after another

-- the messages of a batch are dressed
pub batch_dressed : (schema : Schema) (batch : BatchAt) (messages : List IpcMessage) → SayBatch (HasShortBody schema) schema batch messages → AreDressed schema (map sent_in messages) (rows_of batch)
batch_dressed schema batch messages say =
    let dictionaries = map sent_in say.dictionaries in
    let last = sent_in say.last in
    let dressing : Dressing = record { dictionaries = dictionaries; batch = last; rows = rows_of batch } in
    record {
      dressings = dressing ∷ [];
      are = ap (map sent_in) say.are ∙ map-append sent_in say.dictionaries (say.last ∷ []) ∙ sym (append-nil (dictionaries ++ last ∷ []));
      all = All-cons (IsDressed schema) dressing [] say.dressed (All-nil (IsDressed schema));
      whole = sym (append-nil (rows_of batch));
    }

-- and after others that are
dressed_more : (schema : Schema) (front more : List Sent) (rows new : Rows) → AreDressed schema front rows → AreDressed schema more new → AreDressed schema (front ++ more) (rows ++ new)
dressed_more schema front more rows new one other =
    let messages : Dressing → List Sent = λ d. d.dictionaries ++ d.batch ∷ [] in
    let rows_in : Dressing → Rows = λ d. d.rows in
    record {
      dressings = one.dressings ++ other.dressings;
      are = ap (λ (l : List Sent). l ++ more) one.are ∙ ap (λ (l : List Sent). flat_map messages one.dressings ++ l) other.are ∙ sym (flat_map-append messages one.dressings other.dressings);
      all = All-append (IsDressed schema) one.dressings other.dressings one.all other.all;
      whole = ap (λ (l : Rows). l ++ new) one.whole ∙ ap (λ (l : Rows). flat_map rows_in one.dressings ++ l) other.whole ∙ sym (flat_map-append rows_in one.dressings other.dressings);
    }

behind_more : (schema : Schema) (front more : List Sent) (rows new : Rows) → AreDressedBehind schema front rows → AreDressed schema more new → AreDressedBehind schema (front ++ more) (rows ++ new)
behind_more schema [] more rows new one other = absurd one
behind_more schema (first ∷ front) more rows new one other = dressed_more schema front more rows new one other

pub stands_behind : (schema : Schema) (front more : List IpcMessage) (rows new : Rows) → AreDressedBehind schema (map sent_in front) rows → AreDressed schema (map sent_in more) new
    → AreDressedBehind schema (map sent_in (front ++ more)) (rows ++ new)
stands_behind schema front more rows new one other =
    subst (λ (l : List Sent). AreDressedBehind schema l (rows ++ new)) (sym (map-append sent_in front more)) (behind_more schema (map sent_in front) (map sent_in more) rows new one other)

-- none is after the schema alone
pub none_behind : (schema : Schema) (first : IpcMessage) → AreDressedBehind schema (map sent_in (first ∷ [])) []
none_behind schema first = record { dressings = []; are = refl; all = All-nil (IsDressed schema); whole = refl }
