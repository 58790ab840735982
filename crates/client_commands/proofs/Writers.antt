-- Rows that are written as an Arrow IPC stream, and rows that are held for a table.
use Rattle.std.proofs.Common.{◌≡◌, ℕ, All, List, [], ◌∷◌, ◌++◌, Option, Result, Ok, Err, inl, refl, sym, ap, subst, ◌∙◌, append-nil}
use Rattle.std.specs.List.{flat_map}
use Rattle.std.specs.Prelude.{MatchResult}
use Rattle.std.specs.Io.KnownBytes.{Appends}
use Rattle.std.proofs.KnownBytes.{Appends-nil}
use Rattle.std.proofs.lemmas.Grind.{flat_map-append}
use Rattle.std.proofs.lemmas.List.Elements.{All-nil, All-push}
use Rattle.scan_base.specs.declared.fault.Fault.{Fault}
use Rattle.scan_base.specs.declared.fault.Fault.TheVariants.{LimitReached, OutOfMemory, Transport}
use Rattle.arrow_types.specs.declared.schema.Schema.{Schema}
use Rattle.arrow_types.specs.Schema.{IsSchema}
use Rattle.arrays.specs.Batch.{BatchAt, rows_of}
use Rattle.arrays.specs.TypedLayouts.{AreOfTypes}
use Rattle.ipc_batch.specs.SaidRows.{Rows}
use Rattle.grpc_frame.specs.Ends.{Writes}
use Rattle.row_stream.specs.Stream.{numbered_schema, BreaksOff, IsCause, WritesBeginning, WritesStream}
use Rattle.row_stream.specs.Writing.{Begins, SendsBatch, SoFar}
use Rattle.row_stream.specs.Writing.{WriterAt as StreamWriterAt}
use Rattle.row_text.specs.Tables.{table_of}
use Rattle.command_line.specs.declared.request.Format.TheVariants as form
use Rattle.command_ends.specs.Printing.{Said}
use Rattle.client_commands.specs.Formats.{BreaksRows, WritesAll}
use Rattle.client_commands.specs.inside.Writers.{BeginsRows, Breaks, EndsRows, HasTakenRows, IsCauseIn, SendsRows, WriterAt, stream_state}

-- ---- an Arrow IPC stream

pub stream_begins : (result : Result StreamWriterAt Fault) (schema : Schema) (a b : Option (List ℕ)) → Begins {A = StreamWriterAt} (λ (writer : StreamWriterAt). writer) result (numbered_schema schema) a b
    → BeginsRows {A = StreamWriterAt} form.Arrow stream_state result schema a b
stream_begins (Ok writer) schema a b begins =
    record { written = begins.0; has = subst (λ (s : Schema). SoFar s [] a b writer.waiting) (sym begins.0) begins.1 }
stream_begins (Err Transport) schema a b begins = begins
stream_begins (Err _) schema a b begins = begins

pub stream_causes : {A : Type 0} (schema : Schema) (batches : List BatchAt) (result : Result A Fault) → MatchResult result (λ _. Unit {0}) (IsCause schema batches) → MatchResult result (λ _. Unit {0}) (IsCauseIn form.Arrow schema batches)
stream_causes schema batches (Ok x) cause = tt
stream_causes schema batches (Err Transport) cause = tt
stream_causes schema batches (Err OutOfMemory) cause = tt
stream_causes schema batches (Err LimitReached) cause = (refl, cause)
stream_causes schema batches (Err _) cause = absurd cause

pub stream_sends : {A : Type 0} (result : Result A Fault) (batch : BatchAt) (before after : StreamWriterAt) (out out' : Said) → after.schema ≡ before.schema
    → SendsBatch result before.schema batch out.bytes out'.bytes before.waiting after.waiting out.failures out'.failures → SendsRows result form.Arrow batch (stream_state before) (stream_state after) out out'
stream_sends (Ok x) batch before after out out' same sends = λ schema rows start taken. record {
  written = same ∙ taken.written;
  has = subst (λ (s : Schema). SoFar s (rows ++ rows_of batch) start out'.bytes after.waiting) (sym same) (sends rows start taken.has);
}
stream_sends (Err Transport) batch before after out out' same sends = λ schema rows start taken.
    subst (λ (s : Schema). WritesBeginning s (rows ++ rows_of batch) start out'.bytes) taken.written (sends rows start taken.has)
stream_sends (Err _) batch before after out out' same sends = λ schema rows start taken.
    subst (λ (s : Schema). BreaksOff s (rows ++ rows_of batch) start out'.bytes out.failures out'.failures) taken.written (sends rows start taken.has)

pub stream_breaks : (writer : StreamWriterAt) (out out' : Said)
    → ((schema : Schema) (rows : Rows) (start : Option (List ℕ)) → SoFar schema rows start out.bytes writer.waiting → BreaksOff schema rows start out'.bytes out.failures out'.failures)
    → Breaks form.Arrow (stream_state writer) out out'
stream_breaks writer out out' breaks = λ schema rows start taken.
    subst (λ (s : Schema). BreaksOff s rows start out'.bytes out.failures out'.failures) taken.written (breaks writer.schema rows start taken.has)

pub stream_ends : {A E : Type 0} (result : Result A E) (writer : StreamWriterAt) (old new : Option (List ℕ))
    → ((schema : Schema) (rows : Rows) (start : Option (List ℕ)) → SoFar schema rows start old writer.waiting → WritesStream result schema rows start new)
    → EndsRows result form.Arrow (stream_state writer) old new
stream_ends {A = A} {E = E} (Ok x) writer old new ends = λ schema rows start taken.
    subst (λ (s : Schema). WritesStream {A = A} {E = E} (Ok x) s rows start new) taken.written (ends writer.schema rows start taken.has)
stream_ends {A = A} {E = E} (Err e) writer old new ends = λ schema rows start taken.
    subst (λ (s : Schema). WritesStream {A = A} {E = E} (Err e) s rows start new) taken.written (ends writer.schema rows start taken.has)

-- ---- a table

-- a batch has a column for each field of a schema, of its type
abbrev IsTyped : Schema → BatchAt → Type 0
IsTyped schema batch = AreOfTypes schema.fields batch.columns

-- no batch is held
pub none_held : (schema own : Schema) (batches : List BatchAt) → own ≡ schema → batches ≡ [] → IsSchema schema → IsSchema own × All (IsTyped own) batches
none_held schema own batches same none is = (subst IsSchema (sym same) is, subst (All (IsTyped own)) (sym none) (All-nil (IsTyped own)))

-- one more is
pub one_held : (schema : Schema) (batches more : List BatchAt) (batch : BatchAt) → more ≡ batches ++ batch ∷ [] → IsSchema schema × All (IsTyped schema) batches → IsTyped schema batch → IsSchema schema × All (IsTyped schema) more
one_held schema batches more batch is held typed = (held.0, subst (All (IsTyped schema)) (sym is) (All-push (IsTyped schema) batches batch held.1 typed))

-- one batch more is held
pub batch_held : (batch : BatchAt) (before after : WriterAt) (out out' : Said) → out' ≡ out → after.schema ≡ before.schema → after.batches ≡ before.batches ++ batch ∷ []
    → SendsRows {A = Unit {0}} (Ok tt) form.Table batch before after out out'
batch_held batch before after out out' still same more = λ schema rows start taken. record {
  written = same ∙ taken.written;
  has = (
    ap (flat_map rows_of) more ∙ flat_map-append rows_of before.batches (batch ∷ []) ∙ ap (λ (l : Rows). l ++ (rows_of batch ++ [])) taken.has.0 ∙ ap (λ (l : Rows). rows ++ l) (append-nil (rows_of batch)),
    ap (λ (o : Said). o.bytes) still ∙ taken.has.1,
  );
}

-- nothing is written where it breaks off
pub table_breaks : (schema : Schema) (rows taken_rows : Rows) (start : Option (List ℕ)) (writer : WriterAt) (out out' : Said) → out' ≡ out → HasTakenRows form.Table schema taken_rows start out.bytes writer
    → BreaksRows form.Table schema rows start out'.bytes out.failures out'.failures
table_breaks schema rows taken_rows start writer out out' still taken = (
  [],
  refl,
  inl (subst (λ (b : Option (List ℕ)). Appends start b []) (sym (ap (λ (o : Said). o.bytes) still ∙ taken.has.1)) (Appends-nil start), ap (λ (o : Said). o.failures) still),
)

pub table_ends : {A E : Type 0} (result : Result A E) (writer : WriterAt) (old new : Option (List ℕ)) → Writes result old new (table_of writer.schema (flat_map rows_of writer.batches)) → EndsRows result form.Table writer old new
table_ends result writer old new wrote = λ schema rows start taken.
    let all : Writes result start new (table_of schema rows) =
    subst (λ (a : Option (List ℕ)). Writes result a new (table_of schema rows)) taken.has.1
    (subst (λ (r : Rows). Writes result old new (table_of schema r)) taken.has.0
    (subst (λ (s : Schema). Writes result old new (table_of s (flat_map rows_of writer.batches))) taken.written wrote)) in
    by result schema rows start all
  where
    by : {X Y : Type 0} (result : Result X Y) (schema : Schema) (rows : Rows) (start : Option (List ℕ)) → Writes result start new (table_of schema rows) → WritesAll result form.Table schema rows start new
    by (Ok x) schema rows start wrote = (table_of schema rows, refl, wrote)
    by (Err e) schema rows start wrote = (table_of schema rows, refl, wrote)
