use Rattle.std.proofs.Common.{◌≡◌, ◌+◌, ◌*◌, ◌-◌, ◌<◌, List, Bool, not, length, take, drop, min, cond, sym, ap, ◌∙◌, arith}
use mir.Val.{bool_byte}
use Rattle.scan_base.specs.Value.{is_null}
use Rattle.arrays.specs.Column.{slot_of}
use Rattle.std.proofs.lemmas.List.{drop_all, length-drop}
use Rattle.bitmap.proofs.Masks.{mask_room, byte_cond, byte_small}
use Rattle.arrays.specs.Nulls.{valid_slots}
use Rattle.array_buffers.specs.ColumnBuffers.{bits_number}
use Rattle.array_buffers.proofs.Packed.{bits_mask}
use Rattle.array_buffers.proofs.ValidBytes.{byte_step, byte_none}
use Rattle.array_buffers.proofs.buffer_writing.valid_byte.Goals as goal

pub loop-taken-init : goal.loop-taken-init
loop-taken-init c =
    let column = c.args.column.now in
    let eight = take 8 (drop (8 * c.args.byte) (valid_slots column)) in
    let count : c.min-count.result ≡ min (column.len - 8 * c.args.byte) 8 = omega (arith, c.min-count.ensures, c.len-len.ensures.count) in
    let long = byte_none column c.args.byte c.min-count.result count in
    ap bits_number (sym (drop_all (c.min-count.result - 0) eight (omega (arith, long))))

-- fewer than eight bits are below 128
room : (bits : List Bool) → length bits < 8 → bits_number bits < 128
room bits few = rw (bits_mask bits) (mask_room bits 7 (omega arith))

pub overflow_mul-bits : goal.overflow_mul-bits
overflow_mul-bits c =
    let column = c.args.column.now in
    let eight = take 8 (drop (8 * c.args.byte) (valid_slots column)) in
    let count : c.min-count.result ≡ min (column.len - 8 * c.args.byte) 8 = omega (arith, c.min-count.ensures, c.len-len.ensures.count) in
    let long = byte_none column c.args.byte c.min-count.result count in
    let rest = drop (c.min-count.result - c.loop-taken.taken) eight in
    let few : length rest < 8 = omega (arith, length-drop (c.min-count.result - c.loop-taken.taken) eight, long, c.loop-taken-test.true, count) in
    let low : c.loop-taken.bits < 128 = rw c.loop-taken.invariant (room rest few) in
    record { fits = omega arith }

pub overflow_add-bits : goal.overflow_add-bits
overflow_add-bits c =
    let column = c.args.column.now in
    let eight = take 8 (drop (8 * c.args.byte) (valid_slots column)) in
    let count : c.min-count.result ≡ min (column.len - 8 * c.args.byte) 8 = omega (arith, c.min-count.ensures, c.len-len.ensures.count) in
    let long = byte_none column c.args.byte c.min-count.result count in
    let rest = drop (c.min-count.result - c.loop-taken.taken) eight in
    let few : length rest < 8 = omega (arith, length-drop (c.min-count.result - c.loop-taken.taken) eight, long, c.loop-taken-test.true, count) in
    let low : c.loop-taken.bits < 128 = rw c.loop-taken.invariant (room rest few) in
    record { fits = omega (arith, byte_small (not c.is_null.result)) }

pub loop-taken-preserved : goal.loop-taken-preserved
loop-taken-preserved c =
    let column = c.args.column.now in
    let n = c.min-count.result in
    let count : n ≡ min (column.len - 8 * c.args.byte) 8 = omega (arith, c.min-count.ensures, c.len-len.ensures.count) in
    let step = byte_step column c.args.byte n c.loop-taken.taken c.requires count c.loop-taken-test.true in
    let bit : bool_byte (not c.is_null.result) ≡ cond (not (is_null (slot_of column (8 * c.args.byte + (n - 1 - c.loop-taken.taken))))) 1 0 =
    byte_cond (not c.is_null.result) ∙ ap (λ (null : Bool). cond (not null) 1 0) (c.is_null.ensures ∙ ap is_null c.value_at.ensures) in
    rw step (omega (arith, bit, c.loop-taken.invariant))
