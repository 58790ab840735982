use Rattle.std.proofs.Common.{rules}
use Rattle.proto_wire.proofs.Written.{filled_more, filled_last}
use Rattle.proto_wire.proofs.varint.append_varint.Goals as goal

pub loop-left-preserved : goal.loop-left-preserved
loop-left-preserved c = filled_more c.args.number c.loop-left.end c.loop-left.left c.loop-left.buffer c.loop-left-test.true c.loop-left.invariant

pub returns-clause-ok : goal.returns-clause-ok
returns-clause-ok c =
    rw (← filled_last c.args.number c.loop-left.end c.loop-left.left c.loop-left.buffer c.loop-left-test.false c.loop-left.invariant) (search rules)
