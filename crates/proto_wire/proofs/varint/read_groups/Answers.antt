use Rattle.proto_wire.proofs.Groups.{continues_first, continues_end, continues_last, continues_more, continues_past}
use Rattle.std.proofs.Common.{arith}
use Rattle.proto_wire.proofs.varint.read_groups.Goals as goal

pub loop-place-init : goal.loop-place-init
loop-place-init c = continues_first _

pub returns-in_default : goal.returns-in_default
returns-in_default c = continues_end _ c.loop-place.place c.loop-place.value c.loop-place.rest.now c.in_default.ensures.cases c.loop-place-test.true c.loop-place.invariant

pub returns-then-first-lt128 : goal.returns-then-first-lt128
returns-then-first-lt128 c = rw c.from.ensures (continues_last _ c.loop-place.place c.loop-place.value _ _ _ c.in-Some.ensures.cases.0 c.loop-place-test.true c.if-first-lt128.true c.loop-place.invariant)

pub loop-place-preserved : goal.loop-place-preserved
loop-place-preserved c = rw c.from.ensures (continues_more _ c.loop-place.place c.loop-place.value _ _ _ c.in-Some.ensures.cases.0 c.loop-place-test.true c.if-first-lt128.false c.loop-place.invariant)

pub returns : goal.returns
returns c = continues_past _ c.loop-place.place c.loop-place.value c.loop-place.rest.now (omega (arith, c.loop-place-test.false, c.loop-place.invariant.0)) c.loop-place.invariant
