use Rattle.std.proofs.Common.{true}
use Rattle.csv_columns.specs.SpelledColumns.{mark_of}
use Rattle.csv_columns.proofs.Marked.{with_mark}
use Rattle.csv_columns.proofs.reading.unmarked.Goals as goal

pub returns-in-Some-clause-text : goal.returns-in-Some-clause-text
returns-in-Some-clause-text c =
    let said = c.in-Some.ensures.cases in
    with_mark c.args.text.now c.in-Some.front.now (mark_of true) said.0 said.1
