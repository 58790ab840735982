use Rattle.std.proofs.Common.{◌≡◌, length, rules, arith, ap, length-append}
use Rattle.proto_wire.specs.Calls.{message_of}
use Rattle.proto_wire.proofs.Written.{message_written}
use Rattle.proto_wire.proofs.put.append_message.Goals as goal

pub returns-clause-ok : goal.returns-clause-ok
returns-clause-ok c =
    let start : c.len-start.result ≡ length c.args.out.now.items = search rules in
    let stop : c.len.result ≡ length c.append_fields.new.out.items = search rules in
    message_written c.args.number c.args.out.now.items _ c.append_fields.new.out.items c.append_tag.new.out.items c.append_varint.new.out.items c.turn.new.bytes c.len-start.result _ c.append_varint.new.out.len
    c.in_ok-append_fields.ensures.ok c.in_ok-append_tag.ensures.ok c.in_ok-append_varint.ensures.ok start
    (omega (arith, start, stop, ap length c.in_ok-append_fields.ensures.ok, length-append c.args.out.now.items (message_of c.args.fields.now)))
    (search rules)
    (rw c.deref_mut.ensures.value at c.turn.ensures)
