use Rattle.std.proofs.Common.{◌≡◌, ◌+◌, ◌-◌, ◌∙◌, ℕ, length, ap, arith}
use Rattle.byteorder.specs.Endian.{little_from}
use Rattle.bitmap.proofs.Places.{little_end, little_room}
use Rattle.bitmap.proofs.words.eight_bytes.Goals as goal

pub overflow_mul-number : goal.overflow_mul-number
overflow_mul-number c =
    let bytes = c.args.bytes.now in
    let room = little_room (c.args.at + (length bytes - c.args.at - c.loop-taken.taken)) c.loop-taken.taken bytes (λ k. omega (arith, c.type_inv.bytes k)) (omega arith) in
    record { fits = omega (arith, room, c.loop-taken.invariant) }

pub overflow_add-number-in-loop-taken : goal.overflow_add-number-in-loop-taken
overflow_add-number-in-loop-taken c =
    let bytes = c.args.bytes.now in
    let room = little_room (c.args.at + (length bytes - c.args.at - c.loop-taken.taken)) c.loop-taken.taken bytes (λ k. omega (arith, c.type_inv.bytes k)) (omega arith) in
    record { fits = omega (arith, room, c.loop-taken.invariant, c.type_inv.bytes (c.args.at + (length bytes - c.args.at - 1 - c.loop-taken.taken))) }

pub returns : goal.returns
returns c =
    let bytes = c.args.bytes.now in
    let count : c.loop-taken.taken ≡ length bytes - c.args.at = omega arith in
    let start : c.args.at + (length bytes - c.args.at - c.loop-taken.taken) ≡ c.args.at = omega arith in
    c.loop-taken.invariant ∙ ap (λ (p : ℕ). little_from p c.loop-taken.taken bytes) start ∙ little_end c.args.at c.loop-taken.taken 8 bytes (omega arith) (omega arith)
