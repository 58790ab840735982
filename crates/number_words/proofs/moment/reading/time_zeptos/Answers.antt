use Rattle.std.proofs.Common.{◌∙◌, ap, length}
use Rattle.std.proofs.lemmas.Bool.{lt-leb}
use Rattle.number_words.specs.Moments.{more_in, time_zeptos}
use Rattle.number_words.proofs.MomentForms.{time_zeptos_by, to_its_end}
use Rattle.number_words.proofs.moment.reading.time_zeptos.Goals as goal

pub returns-else-text-le18 : goal.returns-else-text-le18
returns-else-text-le18 c =
    let text = c.as_bytes-text.result.now in
    c.zeptos_of-else-text-le18.ensures
    ∙ time_zeptos_by text c.time_in-else-text-le18.result c.more_in.result (lt-leb (length text) 18 c.if-text-le18.false)
    c.time_in-else-text-le18.ensures.value (c.more_in.ensures ∙ ap more_in (to_its_end 17 text))
    ∙ ap time_zeptos c.as_bytes-text.ensures.value
