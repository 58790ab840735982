use Rattle.std.proofs.Common.{ap, subst, ◌∙◌, FitsSigned, to_z-of_z}
use Rattle.std.specs.Int.{w128}
use Rattle.number_words.specs.DateText.{DayReadsBack}
use Rattle.number_words.specs.NumberTexts.{day_number}
use Rattle.number_words.proofs.Back.{reads_back}
use Rattle.number_words.proofs.laws.shown_reads_back.Goals as goal

pub returns : goal.returns
returns c =
    let same = to_z-of_z c.ranges.number in
    let fits : FitsSigned w128 c.day_number.result = record { sfits = c.day_number.type_inv } in
    reads_back c.args.kind c.args.number
    (subst DayReadsBack (to_z-of_z fits ∙ c.day_number.ensures ∙ ap (day_number c.args.kind) same) c.date_of-date.ensures.reads_back)
