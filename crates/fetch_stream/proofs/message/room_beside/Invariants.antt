use Rattle.std.proofs.Common.{◌≡◌, ◌+◌, map, drop}
use Rattle.ipc_batch.specs.MessageView.{written_seen}
use Rattle.dictionary_answers.specs.Lengths.{bodies_length}
use Rattle.fetch_stream.specs.Streams.{most_body_bytes}
use Rattle.fetch_stream.proofs.message.room_beside.Given as goal

-- what is spent of the room is the length of the bodies so far
abbrev pub invariant-loop-message : goal.invariant-loop-message
invariant-loop-message l =
    bodies_length (map written_seen l.messages) + l.room ≡ most_body_bytes + bodies_length (map written_seen (drop l.message-index l.messages))
