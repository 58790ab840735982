use Rattle.std.proofs.Common.{◌∙◌, ap, sym, length, arith}
use Rattle.std.proofs.lemmas.Bool.{lt-leb}
use Rattle.std.proofs.lemmas.List.{length-take-le}
use Rattle.number_words.specs.Moments.{more_in}
use Rattle.number_words.proofs.MomentForms.{zeptos_by, to_its_end}
use Rattle.number_words.proofs.moment.reading.moment_zeptos.Goals as goal

pub slice_bounds-moment_in-end : goal.slice_bounds-moment_in-end
slice_bounds-moment_in-end c = sym (length-take-le 29 c.args.text.now (omega (arith, c.if-text-le29.false)))

pub returns-else-text-le29 : goal.returns-else-text-le29
returns-else-text-le29 c =
    c.zeptos_of-else-text-le29.ensures
    ∙ zeptos_by c.args.text.now c.moment_in-else-text-le29.result c.more_in.result (lt-leb (length c.args.text.now) 29 c.if-text-le29.false)
    c.moment_in-else-text-le29.ensures.value (c.more_in.ensures ∙ ap more_in (to_its_end 28 c.args.text.now))
