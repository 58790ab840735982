-- What `pipe` does.
use Rattle.std.specs.Prelude.{◌≡◌, Ok, Err}
use Rattle.scan_base.specs.declared.fault.Fault.{Fault}
use Rattle.flight_calls.specs.declared.setting.Options.{Options}
use Rattle.flight_core.specs.Seats.{alone}
use Rattle.flight_calls.specs.OwedAnswers.{Connection, Serves}
use Rattle.command_ends.specs.Printing.{Said, Prints, fault_line}
use Rattle.command_ends.specs.declared.exit_status.ExitStatus.{ExitStatus}
use Rattle.command_ends.specs.declared.exit_status.ExitStatus.TheVariants.{Done, FaultAtThisEnd}

-- By how the program ends: the whole input was served, and nothing is printed; or the connection
-- ended by a fault of this end, which is printed in a line.
abbrev pub Pipes : Options → ExitStatus → Connection → Connection → Said → Said → Type 0
Pipes options Done old new said said' = Serves alone options (Ok tt) old new × (said' ≡ said)
Pipes options FaultAtThisEnd old new said said' =
    (fault : Fault) × Serves alone options (Err fault) old new
    × Prints (fault_line fault) said said'
Pipes options _ old new said said' = ⊥
