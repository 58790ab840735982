-- Rows that are written as lines or records.
use Rattle.std.proofs.Common.{◌≡◌, ℕ, List, [], ◌++◌, Option, Result, Ok, Err, inl, inr, refl, sym, ap, subst, ◌∙◌, append-nil, append_assoc}
use Rattle.std.specs.List.{flat_map}
use Rattle.std.specs.Prelude.{MatchResult}
use Rattle.std.proofs.lemmas.Grind.{flat_map-append}
use Rattle.scan_base.specs.declared.fault.Fault.{Fault}
use Rattle.arrow_types.specs.declared.schema.Schema.{Schema}
use Rattle.arrays.specs.Batch.{BatchAt, rows_of}
use Rattle.ipc_batch.specs.SaidRows.{Rows}
use Rattle.grpc_frame.specs.Ends.{AppendsBeginning, CountsFailure, FailsByTransport, Writes}
use Rattle.grpc_frame.specs.Sending.{NotSent, Sends, Sent}
use Rattle.grpc_frame.proofs.Sending.{begun_alone, both_sent, flushed, second_not_sent}
use Rattle.row_stream.specs.Stream.{CountsTransport, CountsWrites, WritesCounted}
use Rattle.row_text.specs.Rows.{names_row, values_row}
use Rattle.command_line.specs.declared.request.Format.{Format}
use Rattle.command_line.specs.declared.request.Format.TheVariants as form
use Rattle.command_ends.specs.Printing.{Said}
use Rattle.client_commands.specs.Formats.{SaysAll, SaysBroken, SaysFront, SaysPart, WritesFront}
use Rattle.client_commands.specs.inside.Writers.{Breaks, EndsRows, HasRows, HasTakenRows, IsCauseIn, IsText, SendsRows, WriterAt, layout_of, text_of, written_schema}

-- ---- failures

-- a failed transport is counted
pub counts : {A : Type 0} (result : Result A Fault) (old new : ℕ) → CountsFailure result old new → FailsByTransport result → CountsTransport result old new
counts (Ok x) old new counted kind = counted
counts {A = A} (Err fault) old new counted kind = subst (λ (f : Fault). CountsTransport {A = A} (Err f) old new) (sym kind) counted

pub counts_writes : {A : Type 0} (result : Result A Fault) (old new : ℕ) → CountsFailure result old new → FailsByTransport result → CountsWrites result old new
counts_writes (Ok x) old new counted kind = counted
counts_writes {A = A} (Err fault) old new counted kind = subst (λ (f : Fault). CountsWrites {A = A} (Err f) old new) (sym kind) counted

-- and is the cause
pub causes : {A : Type 0} (format : Format) (schema : Schema) (batches : List BatchAt) (result : Result A Fault) → FailsByTransport result → MatchResult result (λ _. Unit {0}) (IsCauseIn format schema batches)
causes format schema batches (Ok x) kind = tt
causes format schema batches (Err fault) kind = subst (IsCauseIn format schema batches) (sym kind) tt

pub counted_either : {A E : Type 0} (result : Result A E) (a b : Option (List ℕ)) (bytes : List ℕ) (failed failed' : ℕ) → Writes result a b bytes → CountsFailure result failed failed' → WritesCounted a b bytes failed failed'
counted_either (Ok x) a b bytes failed failed' wrote counted = inl (wrote, counted)
counted_either (Err e) a b bytes failed failed' wrote counted = inr (wrote, counted)

-- ---- formats of text

has_text : (format : Format) → IsText format → (writer : WriterAt) (rows : Rows) (start now : Option (List ℕ)) → Sent start now [] writer.waiting (text_of format writer.schema rows) → HasRows format writer rows start now
has_text form.Lines is writer rows start now sent = sent
has_text form.Csv is writer rows start now sent = sent
has_text form.Table is writer rows start now sent = absurd is
has_text form.Arrow is writer rows start now sent = absurd is

text_had : (format : Format) → IsText format → (writer : WriterAt) (rows : Rows) (start now : Option (List ℕ)) → HasRows format writer rows start now → Sent start now [] writer.waiting (text_of format writer.schema rows)
text_had form.Lines is writer rows start now has = has
text_had form.Csv is writer rows start now has = has
text_had form.Table is writer rows start now has = absurd is
text_had form.Arrow is writer rows start now has = absurd is

written_text : (format : Format) → IsText format → (schema : Schema) → written_schema format schema ≡ schema
written_text form.Lines is schema = refl
written_text form.Csv is schema = refl
written_text form.Table is schema = refl
written_text form.Arrow is schema = absurd is

says_text : (format : Format) → IsText format → (schema : Schema) (rows : Rows) → SaysAll format schema rows (text_of format schema rows)
says_text form.Lines is schema rows = refl
says_text form.Csv is schema rows = refl
says_text form.Table is schema rows = absurd is
says_text form.Arrow is schema rows = absurd is

part_text : (format : Format) → IsText format → (schema : Schema) (rows : Rows) → SaysPart format schema rows (text_of format schema rows)
part_text form.Lines is schema rows = refl
part_text form.Csv is schema rows = refl
part_text form.Table is schema rows = absurd is
part_text form.Arrow is schema rows = absurd is

broken_text : (format : Format) → IsText format → (schema : Schema) (rows : Rows) (bytes : List ℕ) → SaysFront format schema rows bytes → SaysBroken format schema rows bytes
broken_text form.Lines is schema rows bytes says = says
broken_text form.Csv is schema rows bytes says = says
broken_text form.Table is schema rows bytes says = absurd is
broken_text form.Arrow is schema rows bytes says = absurd is

module _ (format : Format) (is : IsText format) where
  -- all rows are some of them
  whole_front : (schema : Schema) (rows : Rows) → SaysFront format schema rows (text_of format schema rows)
  whole_front schema rows = record { front = rows; rest = []; splits = sym (append-nil rows); says = says_text format is schema rows }

  -- the text of more rows
  text_more : (schema : Schema) (rows more : Rows) → text_of format schema (rows ++ more) ≡ text_of format schema rows ++ flat_map (values_row (layout_of format schema.fields)) more
  text_more schema rows more =
      ap (λ (l : List ℕ). names_row (layout_of format schema.fields) schema.fields ++ l) (flat_map-append (values_row (layout_of format schema.fields)) rows more)
      ∙ sym (append_assoc (names_row (layout_of format schema.fields) schema.fields) (flat_map (values_row (layout_of format schema.fields)) rows) (flat_map (values_row (layout_of format schema.fields)) more))

  -- the columns that are written are those of the schema
  same_schema : (schema : Schema) (rows : Rows) (start now : Option (List ℕ)) (writer : WriterAt) → HasTakenRows format schema rows start now writer → writer.schema ≡ schema
  same_schema schema rows start now writer taken = taken.written ∙ written_text format is schema

  -- what was sent of them
  was_sent : (schema : Schema) (rows : Rows) (start now : Option (List ℕ)) (writer : WriterAt) → HasTakenRows format schema rows start now writer → Sent start now [] writer.waiting (text_of format schema rows)
  was_sent schema rows start now writer taken =
      subst (λ (s : Schema). Sent start now [] writer.waiting (text_of format s rows)) (same_schema schema rows start now writer taken) (text_had format is writer rows start now taken.has)

  is_taken : (schema : Schema) (rows : Rows) (start now : Option (List ℕ)) (writer : WriterAt) → writer.schema ≡ schema → Sent start now [] writer.waiting (text_of format schema rows) → HasTakenRows format schema rows start now writer
  is_taken schema rows start now writer same sent = record {
    written = same ∙ sym (written_text format is schema);
    has = has_text format is writer rows start now (subst (λ (s : Schema). Sent start now [] writer.waiting (text_of format s rows)) (sym same) sent);
  }

  -- ---- the names

  pub names_sent : (schema : Schema) (a b : Option (List ℕ)) (before : List ℕ) (writer : WriterAt) → before ≡ [] → writer.schema ≡ schema
      → Sent a b before writer.waiting (names_row (layout_of format schema.fields) schema.fields) → HasTakenRows format schema [] a b writer
  names_sent schema a b before writer none same sent =
      let names = names_row (layout_of format schema.fields) schema.fields in
      is_taken schema [] a b writer same
      (subst (Sent a b [] writer.waiting) (sym (append-nil names)) (subst (λ (l : List ℕ). Sent a b l writer.waiting names) none sent))

  pub names_not_sent : (schema : Schema) (a b : Option (List ℕ)) (before after : List ℕ) → before ≡ []
      → NotSent a b before after (names_row (layout_of format schema.fields) schema.fields) → WritesFront format schema [] a b
  names_not_sent schema a b before after none failed =
      let names = names_row (layout_of format schema.fields) schema.fields in (
        text_of format schema [],
        part_text format is schema [],
        subst (AppendsBeginning a b) (sym (append-nil names)) (begun_alone a b before after names none failed),
      )

  -- ---- a batch

  module _ (batch : BatchAt) (before after : WriterAt) (out out' : Said) (same : after.schema ≡ before.schema) where
    abbrev sent_of : Schema → List ℕ
    sent_of schema = flat_map (values_row (layout_of format schema.fields)) (rows_of batch)

    pub rows_sent : {A : Type 0} (result : Result A Fault) → FailsByTransport result → Sends result out.bytes out'.bytes before.waiting after.waiting (sent_of before.schema) → SendsRows result format batch before after out out'
    rows_sent (Ok x) kind sent = λ schema rows start taken.
        let is_schema = same_schema schema rows start out.bytes before taken in
        is_taken schema (rows ++ rows_of batch) start out'.bytes after (same ∙ is_schema)
        (subst (Sent start out'.bytes [] after.waiting) (sym (text_more schema rows (rows_of batch)))
        (both_sent start out.bytes out'.bytes [] before.waiting after.waiting (text_of format schema rows) (sent_of schema) (was_sent schema rows start out.bytes before taken)
        (subst (λ (s : Schema). Sent out.bytes out'.bytes before.waiting after.waiting (sent_of s)) is_schema sent)))
    rows_sent {A = A} (Err fault) kind failed =
        subst (λ (f : Fault). SendsRows {A = A} (Err f) format batch before after out out') (sym kind) (λ schema rows start taken.
        let is_schema = same_schema schema rows start out.bytes before taken in
        let all = text_of format schema (rows ++ rows_of batch) in (
          all,
          part_text format is schema (rows ++ rows_of batch),
          subst (AppendsBeginning start out'.bytes) (sym (text_more schema rows (rows_of batch)))
              (begun_alone start out'.bytes [] after.waiting (text_of format schema rows ++ sent_of schema) refl
              (second_not_sent start out.bytes out'.bytes [] before.waiting after.waiting (text_of format schema rows) (sent_of schema) (was_sent schema rows start out.bytes before taken)
              (subst (λ (s : Schema). NotSent out.bytes out'.bytes before.waiting after.waiting (sent_of s)) is_schema failed))),
        ))

  -- ---- the end

  -- it breaks off: what waits is written
  pub text_breaks : {A E : Type 0} (result : Result A E) (writer : WriterAt) (out out' : Said) → Writes result out.bytes out'.bytes writer.waiting → CountsFailure result out.failures out'.failures → Breaks format writer out out'
  text_breaks result writer out out' wrote counted = λ schema rows start taken. (
    text_of format schema rows,
    broken_text format is schema rows (text_of format schema rows) (whole_front schema rows),
    counted_either result start out'.bytes (text_of format schema rows) out.failures out'.failures
        (flushed result start out.bytes out'.bytes [] writer.waiting (text_of format schema rows) refl (was_sent schema rows start out.bytes writer taken) wrote) counted,
  )

  -- it ends
  pub text_ends : {A E : Type 0} (result : Result A E) (writer : WriterAt) (old new : Option (List ℕ)) → Writes result old new writer.waiting → EndsRows result format writer old new
  text_ends {A = A} {E = E} (Ok x) writer old new wrote = λ schema rows start taken.
      (text_of format schema rows, says_text format is schema rows, flushed {A = A} {E = E} (Ok x) start old new [] writer.waiting (text_of format schema rows) refl (was_sent schema rows start old writer taken) wrote)
  text_ends {A = A} {E = E} (Err e) writer old new wrote = λ schema rows start taken. (
    text_of format schema rows,
    part_text format is schema rows,
    flushed {A = A} {E = E} (Err e) start old new [] writer.waiting (text_of format schema rows) refl (was_sent schema rows start old writer taken) wrote,
  )
