use Rattle.std.proofs.Common.{◌++◌, ◌∙◌, ap, sym}
use Rattle.arrow_types.specs.declared.data_type.TimeUnit.{TimeUnit}
use Rattle.number_words.specs.MomentText.{time_text}
use Rattle.number_words.proofs.MomentTexts.{then_fraction}
use Rattle.number_words.proofs.moment.printing.push_time.Goals as goal

pub returns-in-Millisecond-clause-bytes : goal.returns-in-Millisecond-clause-bytes
returns-in-Millisecond-clause-bytes c =
    then_fraction _ _ _ _ _ c.push_clock-in-Millisecond.ensures.bytes c.push_millis.ensures.bytes
    ∙ ap (λ (unit : TimeUnit). c.args.text.now.bytes ++ time_text unit c.args.time) (sym c.in-Millisecond.is)

pub returns-in-Microsecond-clause-bytes : goal.returns-in-Microsecond-clause-bytes
returns-in-Microsecond-clause-bytes c =
    then_fraction _ _ _ _ _ c.push_clock-in-Microsecond.ensures.bytes c.push_micros.ensures.bytes
    ∙ ap (λ (unit : TimeUnit). c.args.text.now.bytes ++ time_text unit c.args.time) (sym c.in-Microsecond.is)

pub returns-in-Nanosecond-clause-bytes : goal.returns-in-Nanosecond-clause-bytes
returns-in-Nanosecond-clause-bytes c =
    then_fraction _ _ _ _ _ c.push_clock-in-Nanosecond.ensures.bytes c.push_nanos.ensures.bytes
    ∙ ap (λ (unit : TimeUnit). c.args.text.now.bytes ++ time_text unit c.args.time) (sym c.in-Nanosecond.is)
