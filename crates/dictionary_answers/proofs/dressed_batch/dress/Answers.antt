use Rattle.std.proofs.Common.{◌≡◌, ◌≤◌, ◌<◌, ◌^◌, All, List, map, subst, arith}
use Rattle.std.specs.List.{AllZip}
use Rattle.arrays.specs.Batch.{AreLong, rows_of}
use Rattle.arrays.specs.Column.{ColumnAt, IsColumn}
use Rattle.dictionary_answers.specs.declared.batches.ColumnDictionary.{ColumnDictionary}
use Rattle.dictionary_answers.specs.Answer.{AreAnswered, coded_bytes, dictionaries_of, dictionary_seen}
use Rattle.ipc_batch.specs.MessageView.{written_seen}
use Rattle.dictionary_answers.specs.Dress.{IsMessageOf}
use Rattle.dictionary_answers.specs.inside.WrittenLengths.{all_written}
use Rattle.dictionary_answers.proofs.Dressing.{dressable_coded}
use Rattle.dictionary_answers.proofs.Lengths.{coded_short, written_short}
use Rattle.dictionary_answers.proofs.Whole.{dressed_whole}
use Rattle.dictionary_answers.proofs.dressed_batch.dress.Goals as goal

pub code_batch-requires-clause-codable : goal.code_batch-requires-clause-codable
code_batch-requires-clause-codable c =
    let batch = c.args.batch.now in
    let stand : All IsColumn batch.columns = subst (λ (columns : List ColumnAt). All IsColumn columns) c.columns.ensures.columns c.columns_stand.ensures in
    dressable_coded c.values_are_of_their_type.ensures c.args.schema.now.fields batch.columns stand c.requires.dressable

-- the texts alone have too many bytes
pub returns-in_default-clause-full : goal.returns-in_default-clause-full
returns-in_default-clause-full c =
    let fields = c.args.schema.now.fields in
    let columns = c.args.batch.now.columns in
    let full : c.args.room < coded_bytes fields columns = rw c.in_default.is at c.in_ok-coded.ensures.full in
    omega (arith, full, coded_short fields columns)

-- or a dictionary cannot be written
pub returns-in_default-2-clause-full : goal.returns-in_default-2-clause-full
returns-in_default-2-clause-full c =
    let fields = c.args.schema.now.fields in
    let columns = c.args.batch.now.columns in
    let coded = c.in-Some.coded in
    let dictionaries = coded.dictionaries.items in
    let answered : AreAnswered fields columns coded.batch.columns = rw c.in-Some.is at c.in_ok-coded.ensures.columns in
    let seen : map dictionary_seen dictionaries ≡ dictionaries_of 0 fields columns = rw c.in-Some.is at c.in_ok-coded.ensures.dictionaries in
    let over : 2 ^ 31 ≤ all_written c.as_slice.result.now = rw c.in_default-2.is at c.in_ok-messages.ensures.full in
    let much : 2 ^ 31 ≤ all_written dictionaries = subst (λ (some : List ColumnDictionary). 2 ^ 31 ≤ all_written some) c.as_slice.ensures.value over in
    omega (arith, much, c.requires.room, written_short 0 fields columns coded.batch.columns dictionaries answered seen)

pub returns-clause-dressed : goal.returns-clause-dressed
returns-clause-dressed c =
    let schema = c.args.schema.now in
    let batch = c.args.batch.now in
    let coded = c.in-Some.coded in
    let messages = c.in-Some-2.messages in
    let dictionaries = coded.dictionaries.items in
    let sents = map written_seen messages.items in
    let stand : All IsColumn batch.columns = subst (λ (columns : List ColumnAt). All IsColumn columns) c.columns.ensures.columns c.columns_stand.ensures in
    let long : AreLong batch.rows batch.columns = subst (λ (columns : List ColumnAt). AreLong batch.rows columns) c.columns.ensures.columns c.columns.ensures.long in
    let same : rows_of coded.batch ≡ rows_of batch = rw c.in-Some.is at c.in_ok-coded.ensures.rows in
    let answered : AreAnswered schema.fields batch.columns coded.batch.columns = rw c.in-Some.is at c.in_ok-coded.ensures.columns in
    let seen : map dictionary_seen dictionaries ≡ dictionaries_of 0 schema.fields batch.columns = rw c.in-Some.is at c.in_ok-coded.ensures.dictionaries in
    let each : AllZip IsMessageOf c.as_slice.result.now sents = rw c.in-Some-2.is at c.in_ok-messages.ensures.messages in
    let all : AllZip IsMessageOf dictionaries sents = subst (λ (some : List ColumnDictionary). AllZip IsMessageOf some sents) c.as_slice.ensures.value each in
    dressed_whole c.values_are_of_their_type.ensures schema batch (record { dictionaries = messages; batch = coded.batch }) dictionaries long c.requires.rows c.requires.numbered c.requires.dressable
    stand same answered seen all
