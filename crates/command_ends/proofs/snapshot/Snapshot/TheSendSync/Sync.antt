-- A snapshot owns nothing, so threads may share one.
use denote.Param.Send.{IsSync, part_keyless}
use Rattle.command_ends.specs.contracts.snapshot.Snapshot.{the_row}
use Rattle.command_ends.proofs.snapshot.Snapshot.TheSendSync.Send.{send}

pub sync : IsSync the_row
sync = record { shared = λ d b o κ q. part_keyless the_row send q d b o }
