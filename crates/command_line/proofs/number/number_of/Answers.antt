use Rattle.std.proofs.Common.{rules}
use Rattle.std.specs.Str.Parse.{ParsesUnsigned, ExplainsUnsignedError, HasUnsignedDigitsIfOk}
use Rattle.clap.specs.Words.{found_of}
use Rattle.clap.proofs.WalkLemmas.{one_text-rows}
use Rattle.command_line.proofs.Saying.{says_number}
use Rattle.command_line.proofs.number.number_of.Goals as goal

pub returns-clause-says : goal.returns-clause-says
returns-clause-says c =
    let says = says_number (λ bs r. ParsesUnsigned 32 10 bs r × ExplainsUnsignedError 10 bs r × HasUnsignedDigitsIfOk bs r) (λ u x g. g.0)
    c.args.numbers c.requires.lowest c.requires.highest (search rules) _ _ c.get_one.ensures.none c.get_one.ensures.value in
    rw (c.clamp.ensures, c.unwrap_or.ensures, ← one_text-rows (found_of c.args.matches.now) c.args.name.now) says
