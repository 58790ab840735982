-- A batch that is dressed, as a whole.
use Rattle.std.proofs.Common.{◌≡◌, ◌≤◌, ℕ, suc, All, List, [], ◌∷◌, length, map, refl, ap, arith}
use Rattle.std.specs.List.{AllZip}
use Rattle.scan_base.specs.Limits.{most_values}
use Rattle.arrow_types.specs.declared.schema.Field.{Field}
use Rattle.arrow_types.specs.declared.schema.Schema.{Schema}
use Rattle.arrays.specs.Batch.{BatchAt, AreLong, rows_of}
use Rattle.arrays.specs.Column.{ColumnAt, IsColumn}
use Rattle.arrays.specs.TypedLayouts.{ValuesAreOfTheirType}
use Rattle.dictionary_answers.specs.declared.batches.ColumnDictionary.{ColumnDictionary}
use Rattle.dictionary_answers.specs.Answer.{AreAnswered, dictionaries_of, dictionary_seen}
use Rattle.ipc_batch.specs.MessageView.{written_seen}
use Rattle.dictionary_answers.specs.declared.dressed_batch.DressedBatch.{DressedBatch}
use Rattle.dictionary_answers.specs.Dress.{AreDressable, AreNumbered, IsDressedBatch, IsMessageOf}
use Rattle.dictionary_answers.proofs.Dressing.{adds_rows, batch_cells, dictionaries_whole, dressable_coded}
use Rattle.dictionary_answers.proofs.Lengths.{written_short}
use Rattle.dictionary_answers.proofs.Sent.{messages_claim, messages_length, messages_said, messages_short}

-- there are as many columns
answered_many : (fields : List Field) (columns made : List ColumnAt) → AreAnswered fields columns made → length made ≡ length columns
answered_many [] [] [] are = refl
answered_many (field ∷ fields) (column ∷ columns) (m ∷ made) are = ap suc (answered_many fields columns made are.1)
answered_many [] [] (m ∷ made) are = absurd are
answered_many [] (column ∷ columns) made are = absurd are
answered_many (field ∷ fields) [] made are = absurd are
answered_many (field ∷ fields) (column ∷ columns) [] are = absurd are

pub dressed_whole : ValuesAreOfTheirType → (schema : Schema) (batch : BatchAt) (made : DressedBatch) (dictionaries : List ColumnDictionary) → AreLong batch.rows batch.columns → batch.rows ≤ most_values
    → AreNumbered 0 schema.fields → AreDressable schema.fields batch.columns → All IsColumn batch.columns → rows_of made.batch ≡ rows_of batch
    → AreAnswered schema.fields batch.columns made.batch.columns → map dictionary_seen dictionaries ≡ dictionaries_of 0 schema.fields batch.columns
    → AllZip IsMessageOf dictionaries (map written_seen made.dictionaries.items) → IsDressedBatch schema batch made
dressed_whole typed schema batch made dictionaries long few numbered are stand same answered seen all =
    let fields = schema.fields in
    let columns = batch.columns in
    let sents = map written_seen made.dictionaries.items in
    record {
      coded = dictionaries_whole schema 0 fields columns (map dictionary_seen dictionaries) sents (rows_of batch) batch.rows (λ id any. any)
          (dressable_coded typed fields columns stand are) numbered (batch_cells batch long) long few seen (messages_said dictionaries sents all);
      adds = λ sent says. adds_rows schema batch made.batch sent long numbered are answered same says;
      claim = messages_claim dictionaries sents all;
      short = messages_short dictionaries sents all;
      sized = omega (arith, messages_length dictionaries sents all, written_short 0 fields columns made.batch.columns dictionaries answered seen);
      many = answered_many fields columns made.batch.columns answered;
      columns = answered;
    }
