-- A command: the message in the Any that a descriptor holds.
use Rattle.std.specs.Prelude.{ℕ, ◌==◌, nat_le, List, length, Option, Some, None, Result, Ok, Err}
use Rattle.scan_base.specs.declared.fault.Fault.{Fault}
use Rattle.scan_base.specs.declared.fault.Fault.TheVariants.{UnknownCommand, LimitReached}
use Rattle.scan_base.specs.Limits.{most_command_bytes}
use Rattle.scan_base.specs.Reading.{◌>>=◌, demand, wanted}
use Rattle.flight_proto.specs.Any.{any_of, message_name}
use Rattle.flight_proto.specs.FlightDescriptor.{DescriptorSaid}
use Rattle.flight_proto.specs.declared.command.Command.{Command}

-- the full name of the command's type, and its bytes
pub record CommandSaid : Type 0 where
  pub name : List ℕ
  pub value : List ℕ

-- the command of a descriptor, or the first fault: it is there, of type CMD, within the limit,
-- reads as an Any, and has a name
unfoldable pub command_of : Option DescriptorSaid → Result CommandSaid Fault
command_of None = Err UnknownCommand
command_of (Some descriptor) = do
  _ ← demand (descriptor.descriptor_type == 2) UnknownCommand
  _ ← demand (nat_le (length descriptor.cmd) most_command_bytes) LimitReached
  any ← any_of descriptor.cmd
  name ← wanted (message_name any.type_url) UnknownCommand
  Ok (record { name = name; value = any.value })

-- what the code holds
abbrev pub command_said : Command → CommandSaid
command_said command = record { name = command.name.now; value = command.value.now }
