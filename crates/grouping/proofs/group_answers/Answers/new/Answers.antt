use Rattle.std.proofs.Common.{refl, subst, arith}
use Rattle.group_slots.specs.Adding.{IsKept, lists_of}
use Rattle.grouping.proofs.Giving.{found_long}
use Rattle.grouping.proofs.group_answers.Answers.new.Goals as goal

pub invariant_of-result : goal.invariant_of-result
invariant_of-result c =
    let shape = c.args.shape.now in
    let kept = c.args.kept in
    rw (c.in_ok-copied.ensures, c.in_ok-copied-2.ensures, c.in_ok-copied-3.ensures, c.in_ok-places.ensures)
    (record {
      has = c.requires.has;
      count = kept.count;
      few = c.requires.few;
      kept = subst (λ groups. IsKept shape.items.now groups kept.count (lists_of kept.tallies.items)) (found_long shape.keys.now kept.firsts.keys) c.requires.kept;
      given_few = omega arith;
    })

pub returns : goal.returns
returns c =
    rw (c.in_ok-copied.ensures, c.in_ok-copied-2.ensures, c.in_ok-copied-3.ensures, c.in_ok-places.ensures) refl
