use Rattle.std.proofs.Common.{◌+◌, ◌-◌, arith}
use Rattle.group_slots.proofs.ShortTexts.{short_room}
use Rattle.group_slots.proofs.tags.last_text.Goals as goal

pub overflow_mul-number : goal.overflow_mul-number
overflow_mul-number c =
    let room = short_room (c.args.begin + (c.args.len - c.loop-taken.taken)) c.loop-taken.taken c.args.bytes.now (λ k. omega (arith, c.type_inv.bytes k)) (omega arith) in
    record { fits = omega (arith, room, c.loop-taken.invariant) }

pub overflow_add-number-in-loop-taken : goal.overflow_add-number-in-loop-taken
overflow_add-number-in-loop-taken c =
    let room = short_room (c.args.begin + (c.args.len - c.loop-taken.taken)) c.loop-taken.taken c.args.bytes.now (λ k. omega (arith, c.type_inv.bytes k)) (omega arith) in
    record { fits = omega (arith, room, c.loop-taken.invariant, c.type_inv.bytes (c.args.begin + (c.args.len - 1 - c.loop-taken.taken))) }
