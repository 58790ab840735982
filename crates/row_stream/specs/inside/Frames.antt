-- Inside: messages that are sent through an outbox.
use Rattle.std.specs.Prelude.{◌≡◌, ℕ, List, [], None, Some, Ok}
use Rattle.arrow_types.specs.declared.schema.Schema.{Schema}
use Rattle.ipc_batch.specs.SaidRows.{Sent, news_of}
use Rattle.ipc_batch.specs.declared.writer.WrittenMessage.{WrittenMessage}
use Rattle.ipc_stream.specs.declared.message.IpcMessage.{IpcMessage}
use Rattle.ipc_stream.specs.Stream.{frame}

-- a message that is written, as one of a stream
abbrev pub as_message : WrittenMessage → IpcMessage
as_message message = record { header = message.header.items; body = message.body.items }

-- its frame
abbrev pub written_frame : WrittenMessage → List ℕ
written_frame message = frame (as_message message)

-- the first message of a stream says a schema, and has no body
pub record SaysSchema (schema : Schema) (sent : Sent) : Type 0 where
  pub alone : sent.body ≡ []
  pub said : news_of None sent
      ≡ Ok (record { state = Some (record { schema = schema; dictionaries = [] }); batch = None })
