-- What becomes of the program's words.
use Rattle.std.specs.Prelude.{◌≡◌, ◌≢◌, ◌⊎◌, ◌<◌, ◌≤◌, ℕ, ◌+◌, List, ◌∷◌, [], ◌++◌, Result, Ok, Err}
use Rattle.std.specs.Prelude.{codes}
use Rattle.std.specs.Io.KnownBytes.{Appends}
use Rattle.clap.specs.Words.{IsAmong, Text}
use Rattle.clap.specs.declared.error.kind.ErrorKind.{ErrorKind}
use Rattle.clap.specs.declared.error.kind.ErrorKind.TheVariants as kind
use Rattle.scan_base.specs.declared.fault.Fault.TheVariants.{OutOfMemory, Transport}
use Rattle.grpc_frame.specs.Ends.{AppendsBeginning}
use Rattle.command_line.specs.Line.{Parsers}
use Rattle.command_line.specs.Request.{IsAskedBy, line_fault}
use Rattle.command_line.specs.declared.request.Request.{Request}
use Rattle.command_line.specs.declared.request.Request.TheVariants.{Serve}
use Rattle.version_cell.specs.Blanks.{most_seats}
use Rattle.command_ends.specs.Printing.{Said, Prints, fault_line}
use Rattle.command_ends.specs.declared.exit_status.ExitStatus.{ExitStatus}
use Rattle.command_ends.specs.declared.exit_status.ExitStatus.TheVariants.{Done, BadCommandLine}
use Rattle.command_ends.specs.declared.exit_status.ExitStatus.TheVariants.{FaultAtThisEnd}

-- memory was refused for the words: a fault of this end
pub record LacksMemory (status : ExitStatus) (said said' : Said) : Type 0 where
  pub status_is : status ≡ FaultAtThisEnd
  pub says : Prints (fault_line OutOfMemory) said said'

-- a word is not UTF-8
pub record HasNoText (status : ExitStatus) (said said' : Said) : Type 0 where
  pub status_is : status ≡ BadCommandLine
  pub says : Prints (codes "error: a word of the command line is not UTF-8" ++ 10 ∷ []) said said'

-- The words are refused by an error of clap's, whose text is printed. No definition says what the
-- text is.
pub record RefusesWords (status : ExitStatus) (said said' : Said) : Type 0 where
  pub status_is : status ≡ BadCommandLine
  pub text : List ℕ
  pub says : Prints text said said'

-- the line that `--version` prints
abbrev pub version_line : List ℕ
version_line = codes "flightscan 0.1.0" ++ 10 ∷ []

-- The version is printed on the output; or a write of it failed, which is a fault of this end
-- (F22).
abbrev pub PrintsVersion : ExitStatus → Said → Said → Said → Said → Type 0
PrintsVersion Done out out' said said' =
    Appends out.bytes out'.bytes version_line × (out'.failures ≡ out.failures) × (said' ≡ said)
PrintsVersion FaultAtThisEnd out out' said said' =
    AppendsBeginning out.bytes out'.bytes version_line × (out'.failures ≡ out.failures + 1)
    × Prints (fault_line Transport) said said'
PrintsVersion _ out out' said said' = ⊥

-- What is done for what clap finds in the words: where they ask for the version, it is printed;
-- else they are refused.
abbrev pub EndsFor : ErrorKind → ExitStatus → Said → Said → Said → Said → Type 0
EndsFor found status out out' said said' =
    ((found ≡ kind.DisplayVersion) × PrintsVersion status out out' said said')
    ⊎ ((found ≢ kind.DisplayVersion) × RefusesWords status said said' × (out' ≡ out))

-- What becomes of words, where names are read by these parsers: they are a request, and no fault is
-- found in them; or memory is refused for reading them; or clap finds one of these faults.
abbrev pub ReadsWords : Parsers → List Text → Result Request ExitStatus → Said → Said → Said →
    Said → Type 0
ReadsWords parsers words (Ok request) out out' said said' =
    (line_fault parsers words ≡ []) × IsAskedBy parsers words request × (out' ≡ out)
    × (said' ≡ said)
ReadsWords parsers words (Err status) out out' said said' =
    (LacksMemory status said said' × (out' ≡ out))
    ⊎ ((found : ErrorKind) × IsAmong found (line_fault parsers words)
    × EndsFor found status out out' said said')

-- a server that is asked for has a seat, and no more than a cell takes
abbrev pub HasSeats : Request → Type 0
HasSeats (Serve serving) = (0 < serving.seats) × (serving.seats ≤ most_seats)
HasSeats _ = Unit {0}

-- Inside: what is done for an error of this kind.
abbrev pub AnswersKind : ErrorKind → ExitStatus → Said → Said → Said → Said → Type 0
AnswersKind found status out out' said said' =
    ((found ≡ kind.OutOfMemory) × LacksMemory status said said' × (out' ≡ out))
    ⊎ ((found ≢ kind.OutOfMemory) × EndsFor found status out out' said said')
