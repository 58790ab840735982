use Rattle.csv_input.specs.Forms.{form_of}
use Rattle.csv_input.proofs.Told.{gave}
use Rattle.csv_input.proofs.input.read_csv.Goals as goal

pub returns-in-Ok-clause-reads : goal.returns-in-Ok-clause-reads
returns-in-Ok-clause-reads g c =
    gave (form_of c.args.form) (λ text. text) c.read_text.result _ _ _ _ _ c.in-Ok.ensures c.read_text.ensures.reads
