use Rattle.std.proofs.Common.{◌≡◌, ◌++◌, ◌∷◌, [], All, List, map, sym, ap, subst, ◌∙◌, append-nil, rules}
use Rattle.std.specs.List.{AllZip}
use Rattle.std.specs.Vec.Iter.{into_iter_items}
use Rattle.std.proofs.lemmas.List.{nil_from_length}
use Rattle.std.proofs.lemmas.List.Elements.{All-rest, All-head}
use Rattle.flight_info.specs.Payloads.{Payload, FitMessages}
use Rattle.flight_info.proofs.Fitting.{none_fit, one_fits}
use Rattle.ipc_batch.specs.declared.writer.WrittenMessage.{WrittenMessage}
use Rattle.ipc_batch.specs.SaidRows.{Sent}
use Rattle.ipc_batch.specs.MessageView.{written_seen}
use Rattle.fetch_stream.specs.inside.WrittenPayloads.{Carries, IsShort}
use Rattle.fetch_stream.proofs.Streaming.{carry_next}
use Rattle.fetch_stream.proofs.message.message_payloads.Goals as goal

pub loop-message-init : goal.loop-message-init
loop-message-init c =
    let sents : List Sent = map written_seen c.args.messages.items in
    let same : c.args.messages.items ≡ into_iter_items c.into_iter-message-iterator.result = search rules in
    let none : c.in_ok-payloads.payloads.items ≡ [] = c.in_ok-payloads.ensures.items in
    record {
      carry = λ more all.
          subst (λ (p : List Payload). AllZip Carries (p ++ more) sents) (sym none)
          (subst (λ (m : List WrittenMessage). AllZip Carries more (map written_seen m)) (sym same) all);
      short = subst (λ (m : List WrittenMessage). All IsShort (map written_seen m)) same c.requires.short;
      fits = subst FitMessages (sym none) none_fit;
    }

pub message_payload-requires : goal.message_payload-requires
message_payload-requires c =
    let message = c.in-Some.message in
    let rest = into_iter_items c.next.new.self in
    let front : into_iter_items c.loop-message.message-iterator ≡ message ∷ rest = search rules in
    let short : All IsShort (map written_seen (message ∷ rest)) =
    subst (λ (m : List WrittenMessage). All IsShort (map written_seen m)) front c.loop-message.invariant.short in
    record { short = All-head IsShort (written_seen message) (map written_seen rest) short }

pub loop-message-preserved : goal.loop-message-preserved
loop-message-preserved c =
    let was = c.loop-message.invariant in
    let sents : List Sent = map written_seen c.args.messages.items in
    let message = c.in-Some.message in
    let rest = into_iter_items c.next.new.self in
    let payloads = c.loop-message.payloads.items in
    let payload = c.in_ok-message_payload.field-0 in
    let front : into_iter_items c.loop-message.message-iterator ≡ message ∷ rest = search rules in
    let pushed : c.push.new.self.items ≡ payloads ++ payload ∷ [] = c.in_ok-push.ensures.items in
    record {
      carry = λ more all.
          subst (λ (p : List Payload). AllZip Carries (p ++ more) sents) (sym pushed)
          (carry_next payloads sents (map written_seen rest) payload (written_seen message) c.in_ok-message_payload.ensures.carries
          (λ others each. was.carry others (subst (λ (m : List WrittenMessage). AllZip Carries others (map written_seen m)) (sym front) each)) more all);
      short = All-rest IsShort (written_seen message) (map written_seen rest) _ (ap (map written_seen) front) was.short;
      fits = subst FitMessages (sym pushed) (one_fits payloads payload was.fits c.in_ok-message_payload.ensures.fits);
    }

pub returns-clause-carry : goal.returns-clause-carry
returns-clause-carry c =
    let sents : List Sent = map written_seen c.args.messages.items in
    let payloads = c.loop-message.payloads.items in
    let left = c.loop-message.message-iterator in
    let none : into_iter_items left ≡ [] = nil_from_length (into_iter_items left) (sym left.rest.ok.0 ∙ c.in-None.ensures.steps.0) in
    subst (λ (p : List Payload). AllZip Carries p sents) (append-nil payloads)
    (c.loop-message.invariant.carry [] (subst (λ (m : List WrittenMessage). AllZip Carries [] (map written_seen m)) (sym none) tt))
