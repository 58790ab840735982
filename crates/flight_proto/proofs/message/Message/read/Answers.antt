use Rattle.std.proofs.Common.{rules}
use Rattle.flight_proto.proofs.Cursors.{whole_read, whole_refused}
use Rattle.flight_proto.proofs.message.Message.read.Goals as goal

pub returns-in_err-check-clause-value : goal.returns-in_err-check-clause-value
returns-in_err-check-clause-value c =
    let h = whole_refused c.args.bytes.now c.new.result c.new-2.result 0 c.in_err-check.field-0.0 c.new.ensures c.new-2.ensures c.in_err-check.ensures in
    rw h.0 (search rules)

pub returns-in_err-check-clause-fault : goal.returns-in_err-check-clause-fault
returns-in_err-check-clause-fault c =
    let h = whole_refused c.args.bytes.now c.new.result c.new-2.result 0 c.in_err-check.field-0.0 c.new.ensures c.new-2.ensures c.in_err-check.ensures in
    search (rules, h.1)

pub returns-clause-value : goal.returns-clause-value
returns-clause-value c = whole_read c.args.bytes.now c.new.result c.new-2.result 0 c.new.ensures c.new-2.ensures c.in_ok-check.ensures
