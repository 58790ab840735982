use Rattle.std.proofs.Common.{◌++◌, All, List, map}
use Rattle.std.specs.List.{AllZip}
use Rattle.std.specs.Vec.Iter.{into_iter_items}
use Rattle.flight_info.specs.Payloads.{Payload, FitMessages}
use Rattle.ipc_batch.specs.MessageView.{written_seen}
use Rattle.fetch_stream.specs.inside.WrittenPayloads.{Carries, IsShort}
use Rattle.fetch_stream.proofs.message.message_payloads.Given as goal

-- where others carry the messages that are left, all carry all
abbrev pub invariant-loop-message : goal.invariant-loop-message
invariant-loop-message l = record {
  carry : (more : List Payload) → AllZip Carries more (map written_seen (into_iter_items l.message-iterator)) → AllZip Carries (l.payloads.items ++ more) (map written_seen l.fn.messages.items);
  short : All IsShort (map written_seen (into_iter_items l.message-iterator));
  fits : FitMessages l.payloads.items;
}
