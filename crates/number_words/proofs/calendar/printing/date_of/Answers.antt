use Rattle.std.proofs.Common.{to_z-of_z}
use Rattle.number_words.proofs.Printed.{not_within, is_no_date, no_date}
use Rattle.number_words.proofs.calendar.printing.date_of.Goals as goal

pub returns-in-Err : goal.returns-in-Err
returns-in-Err c =
    let same = to_z-of_z c.ranges.day in
    let not = not_within c.args.day (λ fits. c.in-Err.ensures (rw same fits)) in
    record { exact = is_no_date c.args.day not; long = tt; reads_back = no_date c.args.day not }
