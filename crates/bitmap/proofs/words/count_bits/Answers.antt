use Rattle.std.proofs.Common.{◌≡◌, ◌*◌, ◌+◌, ◌/◌, ◌%◌, ap, arith}
use Rattle.std.specs.Int.RustNames.{count_ones}
use Rattle.bitmap.proofs.Masks.{count_more, count-le, no_count}
use Rattle.bitmap.proofs.words.count_bits.Goals as goal

pub loop-i-init : goal.loop-i-init
loop-i-init c = no_count c.args.bytes.now c.args.first

pub overflow_add-total : goal.overflow_add-total
overflow_add-total c =
    let more = count_more c.args.bytes.now c.args.first (64 * c.loop-i.i) 64 in
    let le = count-le c.args.bytes.now c.args.first (64 * c.loop-i.i + 64) in
    record { fits = omega (arith, more, le, ap count_ones c.word.ensures, c.loop-i.invariant) }

pub loop-i-preserved : goal.loop-i-preserved
loop-i-preserved c =
    let e : 64 * (c.loop-i.i + 1) ≡ 64 * c.loop-i.i + 64 = omega arith in
    let more = count_more c.args.bytes.now c.args.first (64 * c.loop-i.i) 64 in
    let ones = ap count_ones c.word.ensures in
    rw e (omega (arith, more, ones, c.loop-i.invariant))

pub overflow_add-result : goal.overflow_add-result
overflow_add-result c =
    let more = count_more c.args.bytes.now c.args.first (64 * (c.args.len / 64)) (c.args.len % 64) in
    let le = count-le c.args.bytes.now c.args.first (64 * (c.args.len / 64) + c.args.len % 64) in
    let i : 64 * c.loop-i.i ≡ 64 * (c.args.len / 64) = omega arith in
    let had = rw i at c.loop-i.invariant in
    record { fits = omega (arith, more, le, ap count_ones c.short_word.ensures, had) }

pub returns : goal.returns
returns c =
    let e : 64 * (c.args.len / 64) + c.args.len % 64 ≡ c.args.len = omega arith in
    let i : 64 * c.loop-i.i ≡ 64 * (c.args.len / 64) = omega arith in
    let more = count_more c.args.bytes.now c.args.first (64 * (c.args.len / 64)) (c.args.len % 64) in
    let had = rw i at c.loop-i.invariant in
    rw (← e) (omega (arith, more, had, ap count_ones c.short_word.ensures))
