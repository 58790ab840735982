use Rattle.std.proofs.Common.{◌≡◌, ◌+◌, ◌*◌, ◌%◌, ℕ, length, map, ap, arith}
use Rattle.std.proofs.lemmas.List.{length-append, length-map}
use Rattle.flatbuf.specs.Block.{entries, fields}
use Rattle.flatbuf.specs.GivenSlots.{given_of}
use Rattle.flatbuf.proofs.Standing.{length-little, length_padding}
use Rattle.flatbuf.proofs.Written.{length-numbers, length-entries, length-fields, length-table}
use Rattle.flatbuf.proofs.build.Builder.table.Goals as goal

pub put_fields-requires-clause-small : goal.put_fields-requires-clause-small
put_fields-requires-clause-small c =
    let slots = map given_of c.args.slots.now in
    let a = ap length c.in_ok-put.ensures in
    let b = ap length c.in_ok-put-2.ensures in
    let d = ap length c.in_ok-put_entries.ensures in
    let f = ap length c.in_ok-pad.ensures in
    let n = length-numbers 2 (entries 8 slots) in
    let m = length-entries 8 slots in
    let k = length-map c.args.slots.now given_of in
    let t = length-table slots in
    let few = c.requires.few in
    let small = c.requires.small in
    omega (arith, length-append {A = ℕ}, length-little, length_padding, a, b, d, f, n, m, k, t, few, small)

pub invariant_of-result : goal.invariant_of-result
invariant_of-result c =
    let slots = map given_of c.args.slots.now in
    let root = c.len-root.result in
    let next = root + 8 + 8 * length c.args.slots.now in
    let r = c.len-root.ensures in
    let f = ap length c.in_ok-pad.ensures in
    let w : root % 8 ≡ 0 = omega (arith, length-append {A = ℕ}, length_padding, f, r) in
    let a = ap length c.in_ok-put-3.ensures in
    let b = ap length c.in_ok-put_fields.ensures in
    let d = ap length c.in_ok-put_children.ensures.items in
    let n = length-fields 8 (root + 8) next slots in
    let m = length-numbers 8 (fields 8 (root + 8) next slots) in
    let k = length-map c.args.slots.now given_of in
    let v : length c.put_fields.new.out.items % 8 ≡ 0 = omega (arith, length-append {A = ℕ}, length-little, a, b, n, m, k, r) in
    record { rooted = omega (arith, length-append {A = ℕ}, length-little, a, b, d, r); whole = c.in_ok-put_children.ensures.whole v }
