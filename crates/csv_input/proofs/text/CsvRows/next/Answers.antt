use Rattle.std.proofs.Common.{ap, subst}
use Rattle.std.specs.Prelude.{IfErr, IfOk}
use Rattle.csv_input.specs.Long.{WhyNoMessage}
use Rattle.csv_input.specs.Rows.{TakesMessage}
use Rattle.csv_input.specs.Input.{TextAt}
use Rattle.csv_input.proofs.Next.{fewer}
use Rattle.csv_input.proofs.text.CsvRows.next.Goals as goal

pub returns-clause-taken : goal.returns-clause-taken
returns-clause-taken c =
    subst (λ (t : TextAt). IfOk c.next_message.result (λ found. TakesMessage t.schema found t.records c.next_message.new.records)) c.self.view_is c.next_message.ensures.taken

pub returns-clause-refused : goal.returns-clause-refused
returns-clause-refused c =
    subst (λ (t : TextAt). IfErr c.next_message.result (WhyNoMessage t.schema.fields t.records c.next_message.new.records)) c.self.view_is c.next_message.ensures.refused

pub returns-clause-same : goal.returns-clause-same
returns-clause-same c = ap (λ (t : TextAt). t.schema) c.self.view_is

pub returns-clause-fewer : goal.returns-clause-fewer
returns-clause-fewer c =
    let taken = subst (λ (t : TextAt). IfOk c.next_message.result (λ found. TakesMessage t.schema found t.records c.next_message.new.records)) c.self.view_is c.next_message.ensures.taken in
    fewer c.next_message.result _ _ c.next_message.new.records taken
