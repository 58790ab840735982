use Rattle.std.proofs.Common.{◌≡◌, ◌-◌, ◌∙◌, ℕ, length, ap, arith}
use Rattle.byteorder.specs.Endian.{little_from}
use Rattle.kernels.proofs.FrontBytes.{little_room}
use Rattle.kernels.proofs.needle.short_number.Goals as goal

pub overflow_mul-number : goal.overflow_mul-number
overflow_mul-number c =
    let bytes = c.args.bytes.now in
    let room = little_room (length bytes - c.loop-taken.taken) c.loop-taken.taken bytes (λ k. omega (arith, c.type_inv.bytes k)) (omega arith) in
    record { fits = omega (arith, room, c.loop-taken.invariant) }

pub overflow_add-number : goal.overflow_add-number
overflow_add-number c =
    let bytes = c.args.bytes.now in
    let room = little_room (length bytes - c.loop-taken.taken) c.loop-taken.taken bytes (λ k. omega (arith, c.type_inv.bytes k)) (omega arith) in
    record { fits = omega (arith, room, c.loop-taken.invariant, c.type_inv.bytes (length bytes - 1 - c.loop-taken.taken)) }

pub returns : goal.returns
returns c =
    let bytes = c.args.bytes.now in
    let count : c.loop-taken.taken ≡ length bytes = omega arith in
    let start : length bytes - c.loop-taken.taken ≡ 0 = omega arith in
    c.loop-taken.invariant ∙ ap (λ (p : ℕ). little_from p c.loop-taken.taken bytes) start ∙ ap (λ (n : ℕ). little_from 0 n bytes) count
