use Rattle.csv_columns.proofs.Ranges.{led_text}
use Rattle.csv_columns.proofs.field_values.said_as.Goals as goal

pub returns-in-Dictionary-clause-typed : goal.returns-in-Dictionary-clause-typed
returns-in-Dictionary-clause-typed c = rw c.in-Dictionary.is (led_text c.in-Dictionary.field-0 c.text_said-in-Dictionary.result c.args.text.now c.text_said-in-Dictionary.ensures.value c.text_said-in-Dictionary.ensures.utf8)
