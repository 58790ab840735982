use Rattle.std.proofs.Common.{◌<◌, ◌^◌, arith}
use Rattle.std.specs.Int.{w64, trailing_zeros}
use Rattle.kernels.proofs.TextWords.{at_first, lowest_place, lowest_on, fewer, one_more, at_last}
use Rattle.kernels.proofs.texts.EqualTexts.equal_word.Goals as goal

pub loop-left-init : goal.loop-left-init
loop-left-init c =
    let s = c.args.self.now in
    at_first s.needle s.offsets.now s.bytes.now c.args.from c.args.long c.requires.long

pub loop-left-preserved : goal.loop-left-preserved
loop-left-preserved c =
    let s = c.args.self.now in
    let left = c.loop-left.left in
    let some : 0 < left = omega (arith, c.loop-left-test.true) in
    let fits : left < 2 ^ 64 = omega (arith, c.loop-left.auto.left-fits) in
    one_more s.needle s.offsets.now s.bytes.now c.args.from left c.loop-left.equal (trailing_zeros w64 left) c.is_equal.result (lowest_place left some fits) (lowest_on left some fits)
    c.is_equal.ensures c.loop-left.invariant

pub loop-left-smaller : goal.loop-left-smaller
loop-left-smaller c =
    let left = c.loop-left.left in
    let some : 0 < left = omega (arith, c.loop-left-test.true) in
    let fits : left < 2 ^ 64 = omega (arith, c.loop-left.auto.left-fits) in
    fewer left (trailing_zeros w64 left) (lowest_place left some fits) (lowest_on left some fits)

pub is_equal-requires-clause-within : goal.is_equal-requires-clause-within
is_equal-requires-clause-within c =
    let left = c.loop-left.left in
    let some : 0 < left = omega (arith, c.loop-left-test.true) in
    let fits : left < 2 ^ 64 = omega (arith, c.loop-left.auto.left-fits) in
    omega (arith, lowest_place left some fits, c.requires.within)

pub is_equal-requires-clause-long : goal.is_equal-requires-clause-long
is_equal-requires-clause-long c =
    let left = c.loop-left.left in
    let some : 0 < left = omega (arith, c.loop-left-test.true) in
    let fits : left < 2 ^ 64 = omega (arith, c.loop-left.auto.left-fits) in
    c.loop-left.invariant.long (trailing_zeros w64 left) (lowest_place left some fits) (lowest_on left some fits)

pub returns : goal.returns
returns c =
    let s = c.args.self.now in
    at_last s.needle s.offsets.now s.bytes.now c.args.from c.loop-left.left c.loop-left.equal (omega (arith, c.loop-left-test.false)) c.loop-left.invariant
