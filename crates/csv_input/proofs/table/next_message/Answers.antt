use Rattle.std.proofs.Common.{List, subst}
use Rattle.arrow_types.specs.declared.schema.Field.{Field}
use Rattle.csv_input.specs.inside.Batches.{IsNextBatch}
use Rattle.csv_input.proofs.Taken.{message_taken}
use Rattle.csv_input.proofs.table.next_message.Goals as goal

pub returns-in_ok-batch_message-in-Some-clause-taken : goal.returns-in_ok-batch_message-in-Some-clause-taken
returns-in_ok-batch_message-in-Some-clause-taken c =
    let batch = c.in-Some.batch in
    let taken : IsNextBatch c.as_slice.result.now batch c.args.records.now c.next_batch.new.records = rw c.in-Some.is at c.in_ok-batch.ensures.taken in
    let next = subst (λ (f : List Field). IsNextBatch f batch c.args.records.now c.next_batch.new.records) c.as_slice.ensures taken in
    message_taken c.args.schema.now _ batch _ _ c.requires.plain c.in_ok-batch_message-in-Some.ensures.says next
