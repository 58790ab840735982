-- The numbers of the exit statuses.
use Rattle.std.specs.Prelude.{ℕ}
use Rattle.command_ends.specs.declared.exit_status.ExitStatus.{ExitStatus}
use Rattle.command_ends.specs.declared.exit_status.ExitStatus.TheVariants.{Done, FaultAnswered}
use Rattle.command_ends.specs.declared.exit_status.ExitStatus.TheVariants.{BadCommandLine}
use Rattle.command_ends.specs.declared.exit_status.ExitStatus.TheVariants.{FaultAtThisEnd}

abbrev pub number_of : ExitStatus → ℕ
number_of Done = 0
number_of FaultAnswered = 1
number_of BadCommandLine = 2
number_of FaultAtThisEnd = 3
