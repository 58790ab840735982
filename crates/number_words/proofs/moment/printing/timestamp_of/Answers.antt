use Rattle.std.proofs.Common.{ap, ◌∙◌, FitsSigned, to_z-of_z}
use Rattle.std.specs.Int.{w128}
use Rattle.number_words.specs.DateText.{date_within}
use Rattle.number_words.specs.MomentText.{day_at, time_at}
use Rattle.number_words.proofs.MomentTexts.{printed}
use Rattle.number_words.proofs.moment.printing.timestamp_of.Goals as goal

pub returns : goal.returns
unfolding lib.Utf8.encode
returns c =
    let same = to_z-of_z c.ranges.number in
    let fits : FitsSigned w128 c.day_at.result = record { sfits = c.day_at.type_inv } in
    let day = to_z-of_z fits in
    printed c.args.unit c.args.zoned c.args.number c.day_at.result c.time_at.result c.in_ok-text.text.bytes c.push.new.self.bytes c.push_time.new.text.bytes c.push_zone.new.text.bytes
    (c.day_at.ensures ∙ ap (day_at c.args.unit) same) (c.time_at.ensures.value ∙ ap (time_at c.args.unit) same) (c.in_ok-text.ensures.exact ∙ ap date_within day)
    c.push.ensures.bytes c.push_time.ensures.bytes c.push_zone.ensures
