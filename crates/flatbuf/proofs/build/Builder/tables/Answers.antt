use Rattle.std.proofs.Common.{◌≡◌, ◌+◌, ◌*◌, ◌%◌, ℕ, length, map, ap, arith, append_assoc}
use Rattle.std.proofs.lemmas.List.{length-append, length-map}
use Rattle.flatbuf.proofs.Standing.{length-little, length_padding, tables_from_is}
use Rattle.flatbuf.specs.Block.{Offset, fields, tables_part}
use Rattle.flatbuf.proofs.Written.{length-fields, length-numbers}
use Rattle.flatbuf.proofs.Lengths.{length-tables}
use Rattle.flatbuf.proofs.build.Builder.tables.Goals as goal

pub put_offsets-requires-clause-small : goal.put_offsets-requires-clause-small
put_offsets-requires-clause-small c =
    let l = length-tables c.args.tables.now in
    let e = tables_from_is (length c.args.tables.now) in
    let small = c.requires in
    let p = c.padding_len.ensures in
    omega (arith, l, e, small, p)

pub invariant_of-result : goal.invariant_of-result
invariant_of-result c =
    let a = ap length c.in_ok-put.ensures in
    let b = ap length c.in_ok-put-2.ensures in
    let d = ap length c.in_ok-put_offsets.ensures in
    let e = ap length c.in_ok-pad.ensures in
    let f = ap length c.in_ok-put_tables.ensures.items in
    let tables = map Offset c.args.tables.now in
    let behind = 8 + 4 * length c.args.tables.now + c.padding_len.result in
    let n = length-fields 4 8 behind tables in
    let m = length-numbers 4 (fields 4 8 behind tables) in
    let k = length-map c.args.tables.now Offset in
    let w : length c.pad.new.out.items % 8 ≡ 0 = omega (arith, length-append {A = ℕ}, length-little, length_padding, a, b, d, e, n, m, k) in
    record { rooted = omega (arith, length-append {A = ℕ}, length-little, a, b, d, e, f); whole = c.in_ok-put_tables.ensures.whole w }

pub returns : goal.returns
unfolding tables_part
returns c =
    rw (c.in_ok-put_tables.ensures.items, c.in_ok-pad.ensures, c.in_ok-put_offsets.ensures, c.padding_len.ensures, c.in_ok-put-2.ensures, c.in_ok-put.ensures, c.new-bytes.ensures.items, tables_from_is (length c.args.tables.now)) (simp append_assoc)
