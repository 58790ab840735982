use Rattle.std.proofs.Common.{◌≡◌, ◌≤◌, ◌+◌, ◌++◌, ◌∷◌, [], ◌∙◌, List, map, sym, subst, arith, rules}
use Rattle.arrays.specs.Batch.{BatchAt}
use Rattle.flight_info.specs.Payloads.{FitMessages}
use Rattle.flight_info.proofs.Fitting.{one_fits}
use Rattle.ipc_batch.specs.declared.writer.WrittenMessage.{WrittenMessage}
use Rattle.ipc_batch.specs.MessageView.{written_seen}
use Rattle.ipc_batch.specs.WrittenMessages.{body_length}
use Rattle.dictionary_answers.specs.Lengths.{bodies_length}
use Rattle.fetch_stream.specs.Streams.{most_body_bytes}
use Rattle.fetch_stream.specs.inside.WrittenPayloads.{SaysWritten}
use Rattle.fetch_stream.proofs.Streaming.{carry_last, short_messages}
use Rattle.fetch_stream.proofs.message.dressed_parcel.Goals as goal

pub message_payloads-requires : goal.message_payloads-requires
message_payloads-requires c =
    let dictionaries = c.args.dressed.dictionaries.items in
    let sum : bodies_length (map written_seen dictionaries) + c.in-Some.room ≡ most_body_bytes =
    subst (λ (m : List WrittenMessage). bodies_length (map written_seen m) + c.in-Some.room ≡ most_body_bytes) c.as_slice.ensures.value c.in-Some.ensures in
    record { short = short_messages (map written_seen dictionaries) c.in-Some.room c.requires.short sum }

pub returns-in_ok-push-in-Some-2-clause-carry : goal.returns-in_ok-push-in-Some-2-clause-carry
returns-in_ok-push-in-Some-2-clause-carry c =
    let dictionaries = c.args.dressed.dictionaries.items in
    let batch = c.args.dressed.batch in
    let last = c.in_ok-last-in-Some-2.last in
    let payloads = c.in_ok-payloads-in-Some-2.payloads.items in
    let sum : bodies_length (map written_seen dictionaries) + c.in-Some.room ≡ most_body_bytes =
    subst (λ (m : List WrittenMessage). bodies_length (map written_seen m) + c.in-Some.room ≡ most_body_bytes) c.as_slice.ensures.value c.in-Some.ensures in
    let is : c.new-in-Some-2.result ≡ payloads ++ last ∷ [] = c.new-in-Some-2.ensures ∙ c.in_ok-push-in-Some-2.ensures.items in
    let same : c.in-Some-2.sized ≡ batch = search rules in
    let said : SaysWritten last batch = subst (λ (b : BatchAt). SaysWritten last b) same c.in_ok-last-in-Some-2.ensures.said in
    let short : body_length batch ≤ c.in-Some.room = subst (λ (b : BatchAt). body_length b ≤ c.in-Some.room) same (omega (arith, c.body_length.ensures.length, c.if-body_length-room.true)) in
    carry_last payloads c.new-in-Some-2.result last (map written_seen dictionaries) batch c.in-Some.room is c.in_ok-payloads-in-Some-2.ensures.carry said sum short

pub returns-in_ok-push-in-Some-2-clause-fits : goal.returns-in_ok-push-in-Some-2-clause-fits
returns-in_ok-push-in-Some-2-clause-fits c =
    let last = c.in_ok-last-in-Some-2.last in
    let payloads = c.in_ok-payloads-in-Some-2.payloads.items in
    let is : c.new-in-Some-2.result ≡ payloads ++ last ∷ [] = c.new-in-Some-2.ensures ∙ c.in_ok-push-in-Some-2.ensures.items in
    subst FitMessages (sym is) (one_fits payloads last c.in_ok-payloads-in-Some-2.ensures.fits c.in_ok-last-in-Some-2.ensures.fits)
