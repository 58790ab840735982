use Rattle.std.proofs.Common.{◌∙◌, ap, sym}
use Rattle.number_words.specs.Moments.{fraction_in}
use Rattle.number_words.proofs.MomentForms.{moment_by, to_its_end}
use Rattle.number_words.proofs.moment.reading.moment_in.Goals as goal

pub returns-then-has_time-clause-value : goal.returns-then-has_time-clause-value
returns-then-has_time-clause-value c =
    c.moment_of.ensures.value
    ∙ moment_by c.args.text.now c.day_of_bytes.result c.clock_in.result c.fraction_in.result (sym c.has_time.ensures ∙ c.if-has_time.true)
    c.day_of_bytes.ensures c.clock_in.ensures (c.fraction_in.ensures ∙ ap fraction_in (to_its_end 19 c.args.text.now))
