-- A stream that falls into morsels: each is a stream of its own, and in order they are the whole.
use Rattle.std.specs.Prelude.{◌≡◌, ℕ, Bool, true, false, List, [], ◌∷◌, get_or, None, Result, Ok}
use Rattle.std.specs.Prelude.{Err}
use Rattle.std.specs.List.{flat_map}
use Rattle.scan_base.specs.declared.fault.Fault.{Fault}
use Rattle.scan_base.specs.declared.fault.Fault.TheVariants.{OutOfMemory}
use Rattle.arrow_types.specs.declared.schema.Schema.{Schema}
use Rattle.table_versions.specs.Table.{Row}
use Rattle.flight_info.specs.Payloads.{Payload}
use Rattle.fetch_stream.specs.Streams.{StreamAt, GivesParcel}

-- the schema of an answer, and whether a payload has said it; and its rows, morsel by morsel
pub record MorselsAt : Type 0 where
  pub schema : Schema
  pub begun : Bool
  pub rows : List (List Row)

-- all rows are still to come, before the payload of the schema
abbrev pub before_schema : Schema → List Row → StreamAt
before_schema schema rows =
    record { schema = schema; begun = false; left = rows; given = 0; refused = None }

-- all rows are still to come, after it
abbrev pub behind_schema : Schema → List Row → StreamAt
behind_schema schema rows =
    record { schema = schema; begun = true; left = rows; given = 0; refused = None }

-- what the morsels are in order
abbrev pub whole_stream : MorselsAt → StreamAt
whole_stream morsels = record {
  schema = morsels.schema;
  begun = morsels.begun;
  left = flat_map (λ (rows : List Row). rows) morsels.rows;
  given = 0;
  refused = None;
}

-- one of them, counted from 0: it says no schema
abbrev pub morsel_stream : MorselsAt → ℕ → StreamAt
morsel_stream morsels number = behind_schema morsels.schema (get_or morsels.rows number [])

-- the payload of a schema, whatever rows come after it, unless memory is refused
abbrev pub GivesSchema : Schema → Result Payload Fault → Type 0
GivesSchema schema (Ok payload) = (rows : List Row) →
    GivesParcel (before_schema schema rows) (payload ∷ []) (behind_schema schema rows)
GivesSchema schema (Err fault) = fault ≡ OutOfMemory
