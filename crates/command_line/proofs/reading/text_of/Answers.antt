use Rattle.std.proofs.Common.{◌∙◌}
use Rattle.clap.specs.Words.{found_of}
use Rattle.clap.proofs.WalkLemmas.{first_value-rows}
use Rattle.command_line.proofs.Asking.{text_is}
use Rattle.command_line.proofs.reading.text_of.Goals as goal

pub returns : goal.returns
returns c =
    let is = text_is c.get_str.result _ _ (c.get_str.ensures ∙ first_value-rows (found_of c.args.matches.now) c.args.name.now) in
    rw c.unwrap_or.ensures is
