-- What a contract sees of a written message.
use Rattle.ipc_batch.specs.declared.writer.WrittenMessage.{WrittenMessage}
use Rattle.ipc_batch.specs.News.{Sent}

-- its header and its body
abbrev pub written_seen : WrittenMessage → Sent
written_seen message = record { header = message.header.items; body = message.body.items }
