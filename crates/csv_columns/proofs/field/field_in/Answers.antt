use Rattle.std.proofs.Common.{ℕ, List, Bor, ap, ◌∙◌, refl}
use Rattle.csv.specs.Records.{fields_of}
use Rattle.csv_columns.proofs.Placed.{found_in}
use Rattle.csv_columns.proofs.field.field_in.Goals as goal

pub returns : goal.returns
returns c = ap (λ (s : Bor (List ℕ)). s.now) c.unwrap_or.ensures ∙ found_in (fields_of c.args.fields.now) c.args.place c.get.result _ refl c.get.ensures.value
