-- A batch that was written is read again with the same rows.
use Rattle.std.proofs.Common.{◌≡◌, ◌∙◌, ℕ, zero, suc, ◌%◌, ◌^◌, ◌≤◌, ◌<◌, List, [], ◌∷◌, length, map, get_or, Ok, refl, arith, ap, sym, subst}
use Rattle.std.specs.List.{AllByRecursion, flat_map}
use Rattle.std.proofs.lemmas.Bool.{eq-eqb}
use Rattle.std.proofs.lemmas.List.{length-map}
use Rattle.std.proofs.lemmas.List.Elements.{All-map, recursion_from_All}
use Rattle.scan_base.specs.Reading.{◌>>=◌}
use Rattle.scan_base.specs.Lists.{each}
use Rattle.flatbuf.specs.Block.{Part, table_part}
use Rattle.arrow_schema.specs.declared.header.HeaderKind.TheVariants.{RecordBatch}
use Rattle.arrow_schema.specs.Message.{message_bytes}
use Rattle.arrays.specs.Column.{ColumnAt}
use Rattle.arrays.specs.Batch.{BatchAt}
use Rattle.ipc_batch.specs.declared.parts.BufferPlace.{BufferPlace}
use Rattle.ipc_batch.specs.Parts.{buffer_at}
use Rattle.array_buffers.specs.ColumnBuffers.{buffers_written as column_written}
use Rattle.ipc_batch.specs.Columns.{counts_agree, buffers_wanted}
use Rattle.ipc_batch.specs.SaidRows.{Sent, news_of, batch_sent, batch_parts}
use Rattle.ipc_batch.specs.WrittenMessages.{parts_part, body_of, node_bytes, place_bytes, places_from, node_written, batch_buffers_written, parts_written, FitsNode, FitParts, FitsBatch, SaysParts, SaysBatch, body_length, most_header_bytes}
use Rattle.ipc_batch.proofs.Lengths.{fine, both}
use Rattle.ipc_batch.proofs.PartsAgain.{length-nodes, length-places, length-places_from, batch_slots, parts_read, message_reads, message_written, parts_said, short_header}
use Rattle.ipc_batch.proofs.WriterLoops.{short_texts, length_more}
use Rattle.ipc_batch.proofs.ColumnsAgain.{IsWritable, columns_again, rows_again, wanted_again, few_buffers}
use Rattle.arrays.proofs.NullSlots.{nulls_and_others}

-- the texts of each column are short where the body is
pub column_short : (columns : List ColumnAt) (k : ℕ) (d : ColumnAt) → k < length columns → length (body_of (batch_buffers_written columns)) < 2 ^ 31 →
    length (body_of (column_written (get_or columns k d))) < 2 ^ 31
column_short [] k d low small = absurd (omega arith)
column_short (column ∷ columns) zero d low small = omega (arith, small, length_more (column ∷ columns) columns 0 column refl)
column_short (column ∷ columns) (suc k) d low small = column_short columns k d (omega arith) (omega (arith, small, length_more (column ∷ columns) columns 0 column refl))

columns_writable : (batch : BatchAt) → FitsBatch batch → AllByRecursion (IsWritable batch.rows) batch.columns
columns_writable batch w = recursion_from_All (IsWritable batch.rows) batch.columns
    (λ (k : ℕ) (d : ColumnAt) (low : k < length batch.columns).
    record { len = w.long k d low; stands = w.stand k d low; short = short_texts (get_or batch.columns k d) (column_short batch.columns k d low w.small) })

pub fit_parts : (batch : BatchAt) → FitsBatch batch → FitParts (parts_written batch)
fit_parts batch w =
    let many = length-map batch.columns node_written in
    let three = few_buffers batch.columns in
    let few = w.few in
    let rows = w.rows in
    let small = w.small in
    record {
      rows = w.rows;
      nodes = All-map FitsNode node_written batch.columns (λ (k : ℕ) (d : ColumnAt) (low : k < length batch.columns). (let e = w.long k d low in let n = nulls_and_others (get_or batch.columns k d) in record { long = omega arith; counted = omega arith }));
      few_nodes = omega arith;
      few_buffers = omega arith;
      small = omega arith;
    }

-- there is a place for each buffer
length-each : (body : List ℕ) (places : List BufferPlace) (buffers : List (List ℕ)) → each (buffer_at body) places ≡ Ok buffers → length places ≡ length buffers
length-each body [] buffers e = let same : [] ≡ buffers = cc in ap length same
length-each body (place ∷ more) buffers e =
    let a = both (buffer_at body place) (λ (y : List ℕ). (each (buffer_at body) more >>= λ ys. fine (y ∷ ys))) buffers e in
    let b = both (each (buffer_at body) more) (λ (ys : List (List ℕ)). fine (a.0 ∷ ys)) buffers a.2 in
    let same : a.0 ∷ b.0 ≡ buffers = let c = b.2 in cc in
    ap suc (length-each body more b.0 b.1) ∙ ap length same

-- the message of a batch says its rows
pub batch_said : (batch : BatchAt) → FitsBatch batch → SaysBatch (message_written (parts_written batch)) batch
unfolding news_of batch_sent batch_parts counts_agree
batch_said batch w known of led =
    let parts = parts_written batch in
    let fit = fit_parts batch w in
    let body = body_of parts.buffers in
    let bytes = message_bytes RecordBatch (parts_part parts) (length body) in
    let m = message_reads parts fit in
    let kind = m.kind_again in
    let same = parts_read parts m.message bytes m.place fit m.stands m.body_length_again in
    let fields = known.schema.fields in
    let wanted = wanted_again fields batch.columns of in
    let nodes : length (map node_written batch.columns) ≡ length fields = length-map batch.columns node_written ∙ wanted.0 in
    let places : length same.places ≡ buffers_wanted fields = length-each body same.places parts.buffers same.buffers ∙ wanted.1 in
    let writable = columns_writable batch w in
    let again = columns_again fields known.dictionaries batch.rows body same.places batch.columns of led writable same.buffers in (
      record { columns = again.read; rows = batch.rows },
      rw (m.found, kind, m.header_again, same.said, eq-eqb (length (map node_written batch.columns)) (length fields) nodes, eq-eqb (length same.places) (buffers_wanted fields) places, again.is) refl,
      rows_again batch.rows again.read batch.columns writable again.values,
    )

-- the packed nodes and places of few columns
pub nodes_small : (columns : List ColumnAt) → length columns ≤ 64 →
    (length (flat_map node_bytes (map node_written columns)) % 16 ≡ 0) × (length (flat_map node_bytes (map node_written columns)) ≤ 2 ^ 20)
nodes_small columns few =
    let a = length-nodes (map node_written columns) in
    let b = length-map columns node_written in
    (omega arith, omega arith)

pub places_small : (columns : List ColumnAt) → length columns ≤ 64 →
    (length (flat_map place_bytes (places_from 0 (batch_buffers_written columns))) % 16 ≡ 0) × (length (flat_map place_bytes (places_from 0 (batch_buffers_written columns))) ≤ 2 ^ 20)
places_small columns few =
    let a = length-places (places_from 0 (batch_buffers_written columns)) in
    let b = length-places_from 0 (batch_buffers_written columns) in
    let c = few_buffers columns in
    (omega arith, omega arith)

-- a RecordBatch table that is made of a batch, step by step
pub record Made (batch : BatchAt) (columns : List ColumnAt) (rows : ℕ) (nodes places : List ℕ) (block : Part) : Type 0 where
  pub same : columns ≡ batch.columns
  pub counted : rows ≡ batch.rows
  pub nodes_is : nodes ≡ flat_map node_bytes (map node_written columns)
  pub places_is : places ≡ flat_map place_bytes (places_from 0 (batch_buffers_written columns))
  pub block_is : block ≡ table_part (batch_slots rows nodes places)

pub made_table : (batch : BatchAt) (columns : List ColumnAt) (rows : ℕ) (nodes places : List ℕ) (block : Part) → Made batch columns rows nodes places block → block ≡ parts_part (parts_written batch)
unfolding parts_part
made_table batch columns rows nodes places block m = rw (m.block_is, m.nodes_is, m.places_is, m.same, m.counted) refl

-- what the message of a batch says
pub said : (batch : BatchAt) (block : Part) (n : ℕ) (header : List ℕ) → FitsBatch batch → block ≡ parts_part (parts_written batch) → n ≡ body_length batch → header ≡ message_bytes RecordBatch block n →
    SaysParts (record { header = header; body = body_of (batch_buffers_written batch.columns) }) (parts_written batch)
    × SaysBatch (record { header = header; body = body_of (batch_buffers_written batch.columns) }) batch
said batch block n header fits block_is n_is header_is =
    let is : message_written (parts_written batch) ≡ record { header = header; body = body_of (batch_buffers_written batch.columns) } = rw (header_is, block_is, n_is) refl in (
      subst (λ (x : Sent). SaysParts x (parts_written batch)) is (parts_said (parts_written batch) (fit_parts batch fits)),
      subst (λ (x : Sent). SaysBatch x batch) is (batch_said batch fits),
    )

-- and how long its header is
pub header_short : (batch : BatchAt) (block : Part) (n : ℕ) (header : List ℕ) → FitsBatch batch → block ≡ parts_part (parts_written batch) → header ≡ message_bytes RecordBatch block n →
    length header ≤ most_header_bytes
header_short batch block n header fits block_is header_is =
    let is : header ≡ message_bytes RecordBatch (parts_part (parts_written batch)) n = rw (header_is, block_is) refl in
    subst (λ (x : List ℕ). length x ≤ most_header_bytes) (sym is) (short_header (parts_written batch) n (fit_parts batch fits))
