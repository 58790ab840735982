use Rattle.std.proofs.Common.{◌≤◌, length, arith}
use Rattle.scan_base.specs.Limits.{most_columns}
use Rattle.csv_columns.proofs.Plain.{are_schema}
use Rattle.csv_columns.proofs.columns.found_columns.Goals as goal

pub returns-clause-schema : goal.returns-clause-schema
returns-clause-schema c =
    let made = c.in_ok-fields_in in
    let many = made.ensures.many in
    let seen = c.in_ok-seen.ensures.many in
    let some : 1 ≤ length made.field-0 = omega arith in
    let few : length made.field-0 ≤ most_columns = omega arith in
    are_schema made.field-0 some few made.ensures.named made.ensures.plain
