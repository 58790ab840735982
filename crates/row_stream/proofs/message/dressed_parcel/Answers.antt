use Rattle.std.proofs.Common.{◌≡◌, ◌≤◌, ◌+◌, length, map, refl, subst, List}
use Rattle.ipc_batch.specs.declared.writer.WrittenMessage.{WrittenMessage}
use Rattle.ipc_batch.specs.MessageView.{written_seen}
use Rattle.ipc_batch.specs.WrittenMessages.{SaysBatch}
use Rattle.dictionary_answers.specs.Lengths.{bodies_length}
use Rattle.ipc_stream.specs.Stream.{IsMessage}
use Rattle.row_stream.specs.Stream.{sent_in}
use Rattle.row_stream.proofs.Dressed.{short_behind}
use Rattle.row_stream.proofs.message.dressed_parcel.Goals as goal

pub returns-in-Some-2-clause-behind : goal.returns-in-Some-2-clause-behind
returns-in-Some-2-clause-behind c =
    let dictionaries = c.args.dressed.dictionaries.items in
    let rows = c.in-Some-2.rows in
    let fits : IsMessage rows = rw c.in-Some-2.is at c.in_ok-rows.ensures.fits in
    let says : SaysBatch (sent_in rows) c.args.dressed.batch = rw c.in-Some-2.is at c.in_ok-rows.ensures.says in
    let short : length rows.body ≤ c.in-Some.left = rw c.in-Some-2.is at c.in_ok-rows.ensures.short in
    let sum : bodies_length (map written_seen dictionaries) + c.in-Some.left ≡ c.args.room =
    subst (λ (m : List WrittenMessage). bodies_length (map written_seen m) + c.in-Some.left ≡ c.args.room) c.as_slice.ensures.value c.in-Some.ensures in
    record { last = rows; are = refl; fits = fits; says = says; short = short_behind dictionaries rows c.args.room c.in-Some.left sum short }
