use Rattle.std.proofs.Common.{◌≤◌, length, take_all}
use Rattle.arrow_types.proofs.Plain.{plain_is_schema}
use Rattle.arrow_types.proofs.schema.Schema.plain.Goals as goal

pub returns-clause-valid : goal.returns-clause-valid
returns-clause-valid c is =
    let index = c.loop-field.field-index in
    let fields = c.args.self.now.fields in
    let past : length fields ≤ index = rw (← c.as_slice-field-items.ensures) c.loop-field-test.false in
    rw (c.loop-field.invariant, take_all index fields past) (plain_is_schema c.args.self.now is)
