-- arrow.flight.protocol.Action: something that is asked of a server by name.
use Rattle.std.specs.Prelude.{ℕ, List, [], ◌∷◌, Result, Ok}
use Rattle.scan_base.specs.declared.fault.Fault.{Fault}
use Rattle.scan_base.specs.Reading.{◌>>=◌}
use Rattle.proto_wire.specs.Reading.{fields_of}
use Rattle.proto_wire.specs.Calls.{chunk_entry}
use Rattle.flight_proto.specs.Lookup.{last_text, last_bytes}
use Rattle.flight_proto.specs.Message.{set_fields, spelled}
use Rattle.flight_proto.specs.declared.action.Action.{Action}

-- the action's name, and what it is to be done with
pub record ActionSaid : Type 0 where
  pub action_type : List ℕ
  pub body : List ℕ

-- the action that the bytes are: string type = 1, bytes body = 2
abbrev pub action_of : List ℕ → Result ActionSaid Fault
action_of bytes = do
  fields ← fields_of bytes
  action_type ← last_text 1 fields
  Ok (record { action_type = action_type; body = last_bytes 2 fields })

-- the bytes of an action
abbrev pub action_bytes : ActionSaid → List ℕ
action_bytes action =
    spelled (set_fields (chunk_entry 1 action.action_type ∷ chunk_entry 2 action.body ∷ []))

-- what the code holds
abbrev pub action_said : Action → ActionSaid
action_said action = record { action_type = action.action_type.now; body = action.body.now }
