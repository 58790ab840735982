-- What a contract sees of a message.
use Rattle.arrow_schema.specs.declared.header.Message.{Message}
use Rattle.arrow_schema.specs.Header.{MessageAt}

-- a message, without where its bytes lie in memory
abbrev pub message_seen : Message → MessageAt
message_seen message = record { kind = message.kind; table = message.table }
