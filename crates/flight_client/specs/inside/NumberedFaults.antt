-- Inside: faults by their numbers.
use Rattle.std.specs.Prelude.{ℕ, ◌==◌, if◌then◌else◌}
use Rattle.scan_base.specs.declared.fault.Fault.{Fault}
use Rattle.scan_base.specs.declared.fault.Fault.TheVariants.{BadFrame, MessageTooLarge}
use Rattle.scan_base.specs.declared.fault.Fault.TheVariants.{UnknownMethod, BadProto}
use Rattle.scan_base.specs.declared.fault.Fault.TheVariants.{UnknownCommand, BadFlatbuffer}
use Rattle.scan_base.specs.declared.fault.Fault.TheVariants.{UnsupportedArrow, BadBatch}
use Rattle.scan_base.specs.declared.fault.Fault.TheVariants.{TableMissing, TableExists}
use Rattle.scan_base.specs.declared.fault.Fault.TheVariants.{SchemaMismatch, LimitReached, BadSql}
use Rattle.scan_base.specs.declared.fault.Fault.TheVariants.{UnknownName, TypeClash, NotInSubset}
use Rattle.scan_base.specs.declared.fault.Fault.TheVariants.{BadTicket, VersionUnknown}
use Rattle.scan_base.specs.declared.fault.Fault.TheVariants.{VersionExpired, ResultTooLarge}
use Rattle.scan_base.specs.declared.fault.Fault.TheVariants.{OutOfMemory, Transport}

-- the fault of a number, at this position where it has one
abbrev pub fault_numbered : ℕ → ℕ → Fault
fault_numbered number position =
    if number == 1 then BadFrame
    else (if number == 2 then MessageTooLarge
    else (if number == 3 then UnknownMethod
    else (if number == 4 then BadProto
    else (if number == 5 then UnknownCommand
    else (if number == 6 then BadFlatbuffer
    else (if number == 7 then UnsupportedArrow
    else (if number == 8 then BadBatch
    else (if number == 9 then TableMissing
    else (if number == 10 then TableExists
    else (if number == 11 then SchemaMismatch
    else (if number == 12 then LimitReached
    else (if number == 13 then BadSql position
    else (if number == 14 then UnknownName
    else (if number == 15 then TypeClash
    else (if number == 16 then NotInSubset
    else (if number == 17 then BadTicket
    else (if number == 18 then VersionUnknown
    else (if number == 19 then VersionExpired
    else (if number == 20 then ResultTooLarge
    else (if number == 21 then OutOfMemory
    else Transport))))))))))))))))))))
