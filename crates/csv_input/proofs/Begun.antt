-- A stream that begins with its schema.
use Rattle.std.proofs.Common.{◌≡◌, ℕ, List, [], ◌∷◌, map, None, Some, Ok, refl, arith}
use Rattle.arrow_types.specs.declared.schema.Schema.{Schema}
use Rattle.arrow_types.specs.Schema.{IsSchema}
use Rattle.arrow_schema.specs.declared.header.HeaderKind.TheVariants as kinds
use Rattle.arrow_schema.specs.Header.{schema_in, schema_message_of, schema_of}
use Rattle.arrow_schema.specs.WrittenHeader.{schema_part, schema_bytes}
use Rattle.arrow_schema.proofs.Messages.{messages_read}
use Rattle.arrow_schema.proofs.Again.{whole_schema, short_schema, schemas_read}
use Rattle.ipc_batch.specs.State.{Known}
use Rattle.ipc_batch.specs.Parts.{body_claimed}
use Rattle.ipc_batch.specs.SaidRows.{News, Says, Sent, schema_sent, news_of}
use Rattle.ipc_stream.specs.declared.message.IpcMessage.{IpcMessage}
use Rattle.csv_input.specs.Rows.{SaysRecords, sent_in}
use Rattle.csv_input.proofs.Joined.{no_rows}

-- the first message of a stream says a schema
abbrev pub SaysSchema : Schema → Sent → Type 0
SaysSchema schema sent =
    news_of None sent ≡ Ok (record { state = Some (record { schema = schema; dictionaries = [] }); batch = None })

-- a written schema is read again
pub schema_says : (schema : Schema) (header : List ℕ) → IsSchema schema → header ≡ schema_bytes schema → SaysSchema schema (record { header = header; body = [] })
unfolding schema_of schema_message_of schema_sent news_of body_claimed
schema_says schema header is e =
    let part = short_schema schema is in
    let m = messages_read kinds.Schema (schema_part schema) 0 (whole_schema schema) (omega arith) (omega arith) in
    let again = schemas_read schema is in
    let told : schema_in m.message ≡ Ok schema = rw (m.found, m.kind_again) at again in
    rw (e, m.found, m.kind_again, told, m.body_length_again) refl

-- a schema alone says no rows
pub first_said : (message : IpcMessage) (schema : Schema) → SaysSchema schema (sent_in message) → SaysRecords schema [] (message ∷ [])
first_said message schema tells =
    let known : Known = record { schema = schema; dictionaries = [] } in
    let news : News = record { state = Some known; batch = None } in
    let said : Says (map sent_in (message ∷ [])) schema [] = (known, refl, (news, [], tells, refl, (refl, refl))) in
    ([], no_rows schema.fields, said)
