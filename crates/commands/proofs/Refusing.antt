-- Words that are no request.
use Rattle.std.proofs.Common.{◌≡◌, ◌⊎◌, List, Err, inl, inr}
use Rattle.clap.specs.Words.{IsAmong, Text}
use Rattle.clap.specs.declared.error.kind.ErrorKind.{ErrorKind}
use Rattle.clap.specs.declared.error.kind.ErrorKind.TheVariants.{OutOfMemory}
use Rattle.command_line.specs.Line.{Parsers}
use Rattle.command_line.specs.Request.{line_fault}
use Rattle.command_ends.specs.Printing.{Said}
use Rattle.command_ends.specs.declared.exit_status.ExitStatus.{ExitStatus}
use Rattle.commands.specs.Words.{AnswersKind, ReadsWords}

-- an error of such a kind
pub answered : (parsers : Parsers) (words : List Text) (found : ErrorKind) (status : ExitStatus) (out out' said said' : Said)
    → (found ≡ OutOfMemory) ⊎ IsAmong found (line_fault parsers words) → AnswersKind found status out out' said said'
    → ReadsWords parsers words (Err status) out out' said said'
answered parsers words found status out out' said said' cause (inl lacks) = inl (lacks.1, lacks.2)
answered parsers words found status out out' said said' (inl memory) (inr ends) = absurd (ends.0 memory)
answered parsers words found status out out' said said' (inr among) (inr ends) = inr (found, among, ends.1)
