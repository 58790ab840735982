use Rattle.std.proofs.Common.{map, string_bytes}
use Rattle.commands.proofs.Refusing.{answered}
use Rattle.commands.proofs.Seated.{has_seats}
use Rattle.commands.proofs.program_words.read_words.Goals as goal

pub returns-in-Err-clause-reads : goal.returns-in-Err-clause-reads
returns-in-Err-clause-reads g c =
    (c.in-Err.ensures.0, c.in-Err.ensures.1, answered c.in-Err.ensures.0 (map string_bytes c.args.words.now) _ _ _ _ _ _ c.in-Err.ensures.2 c.end_by_error.ensures)

pub returns-in-Ok-clause-seats : goal.returns-in-Ok-clause-seats
returns-in-Ok-clause-seats g c =
    let asked = c.in-Ok.ensures in
    has_seats asked.0 (map string_bytes c.args.words.now) c.in-Ok.request asked.3
