-- Inside: what payloads say that are written.
use Rattle.std.specs.Prelude.{◌≡◌, ◌≤◌, List, [], ◌∷◌, ◌++◌, length, Some, None, Ok}
use Rattle.std.specs.List.{AllZip}
use Rattle.arrow_types.specs.declared.schema.Schema.{Schema}
use Rattle.arrays.specs.Batch.{BatchAt}
use Rattle.flight_proto.specs.FlightData.{DataSaid, data_of}
use Rattle.ipc_batch.specs.SaidRows.{Sent, Rows, news_of}
use Rattle.ipc_batch.specs.WrittenMessages.{body_length, most_header_bytes, SaysBatch}
use Rattle.ipc_batch.specs.DressedBatches.{IsDressed}
use Rattle.dictionary_answers.specs.Lengths.{bodies_length}
use Rattle.flight_info.specs.Forms.{IsPlain}
use Rattle.flight_info.specs.Payloads.{Payload, message_in}
use Rattle.fetch_stream.specs.Fetches.{IsBare}
use Rattle.fetch_stream.specs.Streams.{Parcel, most_body_bytes}

-- a payload carries this message, and nothing else
pub record Carries (payload : Payload) (message : Sent) : Type 0 where
  pub carried : DataSaid
  pub read : data_of payload ≡ Ok carried
  pub bare : IsBare payload
  pub same : message_in carried ≡ message

-- a payload says a schema and no more than it has to, as the first of payloads
pub record SaysSchema (payload : Payload) (schema : Schema) : Type 0 where
  pub message : Sent
  pub carries : Carries payload message
  pub short : length message.body ≤ most_body_bytes
  pub plain : IsPlain message.header
  pub said : news_of None message
      ≡ Ok (record { state = Some (record { schema = schema; dictionaries = [] }); batch = None })

-- a payload says a batch as it is written, in a body that is not too long
pub record SaysWritten (payload : Payload) (batch : BatchAt) : Type 0 where
  pub message : Sent
  pub carries : Carries payload message
  pub said : SaysBatch message batch
  pub sized : length message.body ≡ body_length batch

-- a message has a short header and a short body
pub record IsShort (message : Sent) : Type 0 where
  pub header : length message.header ≤ most_header_bytes
  pub body : length message.body ≤ most_body_bytes

-- payloads carry the messages of dictionaries, and after them one that says a batch, in bodies that
-- together are not too long
pub record CarryDressed (parcel : Parcel) (dictionaries : List Sent)
    (batch : BatchAt) : Type 0 where
  pub message : Sent
  pub carry : AllZip Carries parcel (dictionaries ++ message ∷ [])
  pub said : SaysBatch message batch
  pub short : bodies_length (dictionaries ++ message ∷ []) ≤ most_body_bytes

-- after a schema payloads say rows, in one batch that is right after its dictionaries, in bodies
-- that together are not too long
pub record SaysRows (parcel : Parcel) (schema : Schema) (rows : Rows) : Type 0 where
  pub dictionaries : List Sent
  pub batch : Sent
  pub carry : AllZip Carries parcel (dictionaries ++ batch ∷ [])
  pub dressed : IsDressed schema
      (record { dictionaries = dictionaries; batch = batch; rows = rows })
  pub short : bodies_length (dictionaries ++ batch ∷ []) ≤ most_body_bytes
