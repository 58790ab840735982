use Rattle.csv.specs.Records.{fields_of}
use Rattle.csv_input.proofs.Faulty.{SayFirst}
use Rattle.csv_input.proofs.wrong_records.wrong_cell.Given as goal

abbrev pub invariant-loop-number : goal.invariant-loop-number
invariant-loop-number l = SayFirst l.columns (fields_of l.fields) l.number
