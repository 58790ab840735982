use Rattle.std.proofs.Common.{◌≡◌, rules}
use Rattle.flight_info.specs.Tables.{tables_schema}
use Rattle.flight_info.proofs.Listed.{listed_schema}
use Rattle.flight_info.proofs.tables.tables_schema.Goals as goal

pub returns-clause-valid : goal.returns-clause-valid
returns-clause-valid c =
    let same : c.push-4.new.self ≡ tables_schema.fields = search rules in
    rw same listed_schema
