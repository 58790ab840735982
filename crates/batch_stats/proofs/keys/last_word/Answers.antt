use Rattle.std.proofs.Common.{◌≡◌, ◌≤◌, ◌-◌, ℕ, ap, ◌∙◌, arith}
use Rattle.byteorder.specs.Endian.{big_from}
use Rattle.batch_stats.proofs.TextKeys.{big_next, seven_room}
use Rattle.batch_stats.proofs.keys.last_word.Goals as goal

pub overflow_mul-word : goal.overflow_mul-word
overflow_mul-word c =
    let few : c.loop-place.place - c.args.begin ≤ 7 = omega (arith, c.loop-place-test.true) in
    let room = seven_room c.args.begin (c.loop-place.place - c.args.begin) c.args.bytes.now (λ k. omega (arith, c.type_inv.bytes k)) few in
    record { fits = omega (arith, room, c.loop-place.invariant.word) }

pub overflow_add-word : goal.overflow_add-word
overflow_add-word c =
    let few : c.loop-place.place - c.args.begin ≤ 7 = omega (arith, c.loop-place-test.true) in
    let room = seven_room c.args.begin (c.loop-place.place - c.args.begin) c.args.bytes.now (λ k. omega (arith, c.type_inv.bytes k)) few in
    record { fits = omega (arith, room, c.loop-place.invariant.word, c.byte_or_zero.ensures, c.type_inv.bytes c.loop-place.place) }

pub loop-place-preserved : goal.loop-place-preserved
loop-place-preserved c = record {
  low = omega (arith, c.loop-place.invariant.low);
  word = omega (arith, c.loop-place.invariant.word, c.byte_or_zero.ensures) ∙ big_next c.args.begin c.loop-place.place c.args.bytes.now c.loop-place.invariant.low;
}

pub returns : goal.returns
returns c =
    let all : c.loop-place.place - c.args.begin ≡ 8 = omega (arith, c.loop-place-test.false, c.loop-place.auto.place-end) in
    c.loop-place.invariant.word ∙ ap (λ (n : ℕ). big_from c.args.begin n c.args.bytes.now) all
