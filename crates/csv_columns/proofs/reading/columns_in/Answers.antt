use Rattle.std.proofs.Common.{◌≡◌, ◌≤◌, [], length, ap, sym, ◌∙◌, arith}
use Rattle.std.proofs.lemmas.List.{length-map}
use Rattle.scan_base.specs.Limits.{most_columns}
use Rattle.csv_columns.specs.TextRecords.{records_in}
use Rattle.csv_columns.proofs.Plain.{are_schema}
use Rattle.csv_columns.proofs.Refusing.{no_record}
use Rattle.csv_columns.proofs.reading.columns_in.Goals as goal

pub returns-clause-schema : goal.returns-clause-schema
returns-clause-schema c =
    let made = c.in_ok-fields_in in
    let many = made.ensures.spelled.many in
    let trimmed = c.in_ok-trim.ensures.fields in
    let same = ap length trimmed in
    let some : 1 ≤ length made.field-0 = omega (arith, simp length-map at (ap length trimmed)) in
    let few : length made.field-0 ≤ most_columns = omega (arith, simp length-map at (ap length trimmed)) in
    are_schema made.field-0 some few made.ensures.named made.ensures.plain

pub returns-then-not-branch-clause-refused : goal.returns-then-not-branch-clause-refused
returns-then-not-branch-clause-refused c =
    let none : c.new-records.result ≡ [] = rw c.if-not-branch.true at c.in_ok-next.ensures in
    no_record (records_in c.args.text.now) (sym c.new-records.ensures ∙ none)
