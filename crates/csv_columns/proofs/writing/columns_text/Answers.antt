use Rattle.std.proofs.Common.{◌∙◌, ap}
use Rattle.std.proofs.lemmas.Result.{IfOk-weaker}
use Rattle.csv.specs.Writing.{default_writer, row_text}
use Rattle.csv_columns.specs.SpelledColumns.{spelled}
use Rattle.csv_columns.proofs.Again.{made_again}
use Rattle.csv_columns.proofs.writing.columns_text.Goals as goal

pub returns-clause-again : goal.returns-clause-again
returns-clause-again c some =
    let columns = c.args.columns.now in
    let same = ap (row_text default_writer) c.in_ok-fields.ensures in
    IfOk-weaker c.record_text.result _ _ (λ text is. made_again spelled columns text.items (is ∙ same) some) c.record_text.ensures
