use Rattle.std.proofs.Common.{◌≡◌, ◌+◌, ◌∷◌, [], length, true, false, sym, ap, arith}
use Rattle.std.proofs.lemmas.List.{length-append}
use Rattle.rewrite.proofs.UsedColumns.{counted_more, number_next, number_zero}
use Rattle.rewrite.proofs.used_numbers.UsedNumbers.of.Goals as goal
use Rattle.rewrite.proofs.used_numbers.UsedNumbers.of.Goals.{then-used, else-used}

pub loop-used-init : goal.loop-used-init
loop-used-init c = record {
  all = ap length c.in_ok-numbers.ensures.items;
  next = sym (number_zero c.args.uses.now);
  few = omega arith;
  counts = λ k h. absurd (omega (arith, h));
}

pub loop-used-preserved : goal.loop-used-preserved
loop-used-preserved c =
    let uses = c.args.uses.now in
    let i = c.loop-used.used-index in
    let so_far = c.loop-used.invariant in
    let items = c.in_ok-push.ensures.items in
    let long : length c.push.new.self.items ≡ i + 1 =
    let e = ap length items in
    let l = length-append c.loop-used.numbers.items (c.loop-used.before ∷ []) in omega (arith, e, l, so_far.all) in
    let counts = counted_more c.loop-used.numbers.items c.push.new.self.items uses i c.loop-used.before so_far.all items so_far.next so_far.counts in
    elim c.if-used.branch [
      | then-used w ↦
          let n = number_next uses i c.loop-used-test.true true _ (sym w.if-used.true) in record {
            all = long;
            next = omega (arith, n, w.before-is, so_far.next);
            few = omega (arith, w.before-is, so_far.few);
            counts = counts;
          }
      | else-used w ↦
          let n = number_next uses i c.loop-used-test.true false _ (sym w.if-used.false) in record {
            all = long;
            next = omega (arith, n, w.before-is, so_far.next);
            few = omega (arith, w.before-is, so_far.few);
            counts = counts;
          }
    ]
