-- An expiry of old versions: the Action that asks for it, and the Result that answers it.
use Rattle.std.specs.Prelude.{ℕ, ◌==◌, List, length, codes, Result, Ok}
use Rattle.std.specs.Str.{bytes_eq}
use Rattle.byteorder.specs.Endian.{big_bytes, big_number}
use Rattle.scan_base.specs.declared.fault.Fault.{Fault}
use Rattle.scan_base.specs.declared.fault.Fault.TheVariants.{BadProto, UnknownCommand}
use Rattle.scan_base.specs.Reading.{◌>>=◌, demand}
use Rattle.flight_proto.specs.Action.{action_of, action_bytes}
use Rattle.flight_proto.specs.WrappedBytes.{wrapped_of, wrapped_bytes}

-- the name of the action
abbrev pub expire_name : List ℕ
expire_name = codes "scan.expire"

-- a number as a body: eight bytes, the greatest first
abbrev pub body_number : List ℕ → Result ℕ Fault
body_number body = demand (length body == 8) BadProto >>= λ _. Ok (big_number 8 body)

-- the number below which an action expires the versions
abbrev pub expiry_of : List ℕ → Result ℕ Fault
expiry_of message = do
  action ← action_of message
  _ ← demand (bytes_eq action.action_type expire_name) UnknownCommand
  body_number action.body

-- the action that expires the versions below a number
abbrev pub expiry_bytes : ℕ → List ℕ
expiry_bytes version =
    action_bytes (record { action_type = expire_name; body = big_bytes 8 version })

-- the floor that a Result says
abbrev pub floor_said : List ℕ → Result ℕ Fault
floor_said message = wrapped_of message >>= body_number

-- the Result that says a floor
abbrev pub floor_bytes : ℕ → List ℕ
floor_bytes floor = wrapped_bytes (big_bytes 8 floor)
