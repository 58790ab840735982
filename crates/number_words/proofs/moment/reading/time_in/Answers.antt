use Rattle.std.proofs.Common.{◌∙◌, ap, length}
use Rattle.std.proofs.lemmas.Bool.{le-leb}
use Rattle.number_words.specs.Moments.{fraction_in}
use Rattle.number_words.proofs.MomentForms.{time_by, to_its_end}
use Rattle.number_words.proofs.moment.reading.time_in.Goals as goal

pub returns-then-text-ge8-clause-value : goal.returns-then-text-ge8-clause-value
returns-then-text-ge8-clause-value c =
    c.moment_of.ensures.value
    ∙ time_by c.args.text.now c.clock_in.result c.fraction_in.result (le-leb 8 (length c.args.text.now) c.if-text-ge8.true)
    c.clock_in.ensures (c.fraction_in.ensures ∙ ap fraction_in (to_its_end 8 c.args.text.now))
