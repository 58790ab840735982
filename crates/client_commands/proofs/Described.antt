-- Columns that are told, seen as plain data.
use Rattle.std.specs.Prelude.{ℕ, List, Option, Some, Result, Ok, Err}
use Rattle.scan_base.specs.declared.fault.Fault.{Fault}
use Rattle.flight_proto.specs.InfoCommand.{InfoCommand}
use Rattle.client_calls.specs.declared.failure.Failure.{Failure}
use Rattle.client_calls.specs.Outcome.{Line}
use Rattle.command_ends.specs.Network.{Ends}
use Rattle.command_ends.specs.declared.exit_status.ExitStatus.{ExitStatus}
use Rattle.client_commands.specs.CallOutcome.{Tells}
use Rattle.client_commands.specs.Commands.{Desk, FetchesColumns, Over}
use Rattle.client_commands.specs.Lines.{opened_line}

pub columns_told : {A : Type 0} (hint : Fault → List ℕ) (Gives : Option Ends → Type 0) (view : A → List ℕ) (wanted : InfoCommand) (result : Result A Failure) (ends : Ends) (last : Line) (status : ExitStatus) (old new : Desk)
    → Gives (Some ends) → FetchesColumns view wanted result (opened_line ends) last → Tells hint view result status old.out new.out old.faults new.faults
    → Over Gives (FetchesColumns (λ (text : List ℕ). text) wanted) (Tells hint (λ (text : List ℕ). text)) status old new
columns_told hint Gives view wanted (Ok x) ends last status old new given made tells =
    record { ends = ends; given = given; result = Ok (view x); last = last; made = made; tells = tells }
columns_told hint Gives view wanted (Err failure) ends last status old new given made tells =
    record { ends = ends; given = given; result = Err failure; last = last; made = made; tells = tells }
