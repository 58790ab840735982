-- The next records: in a chunk, as a batch, and as a message.
use Rattle.std.proofs.Common.{◌≡◌, ◌≢◌, ◌<◌, ◌+◌, ℕ, List, [], ◌∷◌, ◌++◌, length, get_or, refl, sym, ap, subst, ◌∙◌, arith, append-nil}
use Rattle.std.specs.Prelude.{IsSome}
use Rattle.std.proofs.lemmas.List.{get_or_append_left, length-append}
use Rattle.csv.specs.Machine.{next_record}
use Rattle.csv.specs.Reading.{records_from, strip_bom}
use Rattle.arrow_types.specs.declared.schema.Field.{Field}
use Rattle.arrow_types.specs.declared.schema.Schema.{Schema}
use Rattle.arrays.specs.Batch.{BatchAt, rows_of}
use Rattle.ipc_batch.specs.WrittenMessages.{SaysBatch}
use Rattle.ipc_stream.specs.declared.message.IpcMessage.{IpcMessage}
use Rattle.csv_columns.specs.TextRecords.{records_in}
use Rattle.csv_columns.specs.FieldValues.{cell_in}
use Rattle.csv_input.specs.Rows.{AreRight, IsNext, IsRight, sent_in}
use Rattle.csv_input.specs.inside.Batches.{HasTaken, IsBatchOf, IsNextBatch}
use Rattle.csv_input.specs.inside.Cells.{HasWrongColumn}
use Rattle.csv_input.proofs.Columnar.{SaysCells, wrong_says}
use Rattle.csv_input.specs.inside.Chunks.{ChunkAt, Holds}
use Rattle.csv_input.proofs.Joined.{ArePlain, more_said, rows_joined}
use Rattle.csv_input.proofs.Placed.{holds_more, holds_none}
use Rattle.csv_input.proofs.Transposed.{batch_types, rows_are}

-- no byte, no record
pub none_in : records_in [] ≡ []
unfolding strip_bom records_from next_record
none_in = refl

-- ---- a chunk

-- it has none
pub none_held : (chunk : ChunkAt) (width : ℕ) → chunk ≡ record { width = width; rows = 0; fields = [] } → Holds chunk []
none_held chunk width e = subst (λ (c : ChunkAt). Holds c []) (sym e) (holds_none width)

-- one record more stands in it
pub more_held : (chunk new : ChunkAt) (taken : List (List (List ℕ))) (fields : List (List ℕ)) → new ≡ record { width = chunk.width; rows = chunk.rows + 1; fields = chunk.fields ++ fields } → length fields ≡ chunk.width →
    Holds chunk taken → Holds new (taken ++ fields ∷ [])
more_held chunk new taken fields e wide holds = subst (λ (c : ChunkAt). Holds c (taken ++ fields ∷ [])) (sym e) (holds_more chunk taken fields wide holds)

-- all that were left stand in it
pub all_taken : (columns : List Field) (chunk : ChunkAt) (old taken left new : List (List (List ℕ))) → old ≡ taken ++ left → left ≡ [] → new ≡ [] → Holds chunk taken → chunk.width ≡ length columns →
    HasTaken columns chunk old new
all_taken columns chunk old taken left new splits none empty holds wide = record {
  taken = taken;
  splits = splits ∙ ap (λ (l : List (List (List ℕ))). taken ++ l) (none ∙ sym empty);
  holds = holds;
  wide = wide;
  none = λ few. splits ∙ ap (λ (l : List (List (List ℕ))). taken ++ l) none ∙ append-nil taken ∙ nothing taken (holds.count ∙ few);
}
  where
    nothing : (held : List (List (List ℕ))) → length held ≡ 0 → held ≡ []
    nothing [] few = refl
    nothing (one ∷ held) few = absurd (omega (arith, few))

-- ---- a batch

-- the fields of records that are right say values
right_cells : (columns : List Field) (chunk : ChunkAt) (old new : List (List (List ℕ))) → HasTaken columns chunk old new → AreRight columns old → (row : ℕ) → row < chunk.rows → SaysCells chunk columns row (length columns)
right_cells columns chunk old new has right row low = λ k d there.
    let inside : row < length has.taken = omega (arith, low, has.holds.count) in
    let all : row < length old = omega (arith, inside, ap length has.splits, length-append has.taken new) in
    let same : get_or old row [] ≡ get_or has.taken row [] = ap (λ (l : List (List (List ℕ))). get_or l row []) has.splits ∙ get_or_append_left has.taken new [] row inside in
    let here : IsRight columns (get_or has.taken row []) = subst (IsRight columns) same (right row [] all) in
    subst (λ (field : List ℕ). IsSome (cell_in (get_or columns k d) field)) (has.holds.each row k low (omega (arith, there, has.wide))) (here.each k there d)

pub none_wrong : (columns : List Field) (chunk : ChunkAt) (old new : List (List (List ℕ))) (d : Field) → HasTaken columns chunk old new → AreRight columns old → HasWrongColumn chunk columns → ⊥
none_wrong columns chunk old new d has right wrong = wrong_says chunk columns d wrong (right_cells columns chunk old new has right)

pub batch_taken : (columns : List Field) (chunk : ChunkAt) (batch : BatchAt) (old new : List (List (List ℕ))) → HasTaken columns chunk old new → chunk.rows ≢ 0 → IsBatchOf chunk columns batch →
    IsNextBatch columns batch old new
batch_taken columns chunk batch old new has some is = record {
  taken = has.taken;
  some = λ none. some (sym has.holds.count ∙ ap length none);
  splits = has.splits;
  rows = rows_are chunk columns batch has.taken is has.holds has.wide;
  many = is.made.many;
  typed = batch_types chunk columns batch is;
}

-- ---- a message

pub message_taken : (schema : Schema) (message : IpcMessage) (batch : BatchAt) (old new : List (List (List ℕ))) → ArePlain schema.fields → SaysBatch (sent_in message) batch →
    IsNextBatch schema.fields batch old new → IsNext schema message old new
message_taken schema message batch old new plain says next = record {
  taken = next.taken;
  some = next.some;
  splits = next.splits;
  behind = λ done messages said. (
    said.0 ++ rows_of batch,
    rows_joined schema.fields done next.taken said.0 (rows_of batch) said.1 next.rows,
    more_said messages message schema said.0 batch says plain next.typed said.2,
  );
}
