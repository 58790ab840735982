use Rattle.flight_proto.proofs.Writes.{is_numbered, parts_more}
use Rattle.flight_proto.proofs.message_parts.append_parts.Goals as goal

pub put_part-requires : goal.put_part-requires
put_part-requires c = is_numbered c.args.parts.now c.loop-part.part-index _ c.loop-part-test.true c.requires

pub loop-part-preserved : goal.loop-part-preserved
loop-part-preserved c =
    parts_more c.args.out.now.items c.loop-part.out.items c.put_part.new.out.items c.args.parts.now c.loop-part.part-index _ c.loop-part-test.true c.loop-part.invariant c.in_ok-put_part.ensures.ok
