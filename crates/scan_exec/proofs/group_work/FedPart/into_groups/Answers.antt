use Rattle.std.proofs.Common.{◌+◌, refl, ap, arith}
use Rattle.scan_exec.specs.GroupWork.{PartAt, work_at}
use Rattle.scan_exec.proofs.Feeding.{none_left, same_still, some_left}
use Rattle.scan_exec.proofs.group_work.FedPart.into_groups.Goals as goal

-- who watches was told of no row
pub loop-part-init : goal.loop-part-init
loop-part-init g c = record {
  same = record { batches = refl; types = refl; keys = refl; items = refl; rows = refl; left = omega arith };
  ready = c.requires.ready;
  watched = g.met.W.Watches.unasked _;
  told = (0, omega arith, g.met.W.Watches.untold _);
}

pub feed_next-requires : goal.feed_next-requires
feed_next-requires g c =
    let s = c.part.inside in
    let some = some_left (work_at s.work) s.from s.at s.row s.to s.groups c.part.invariant.0 c.loop-part-test.true in
    record { more = omega (arith, some, ap (λ (p : PartAt). p.left) c.part.view_is) }

pub loop-part-preserved : goal.loop-part-preserved
loop-part-preserved g c =
    let is = c.loop-part.invariant in
    let next = c.in_ok-next.ensures in
    record {
      same = same_still c.args.self c.loop-part.part c.in_ok-next.next is.same next.same next.less;
      ready = c.in_ok-tell.ensures.ready;
      watched = g.met.W.Watches.again _ _ _ is.watched c.in_ok-tell.ensures.watched;
      told = (is.told.0 + c.in_ok-next.counted, omega (arith, is.told.1, next.counted, is.same.left, next.less), g.met.W.Watches.told_again _ _ _ _ _ is.told.2 c.in_ok-tell.ensures.told);
    }

-- who watches ended it
pub returns-in_err-tell-clause-watched : goal.returns-in_err-tell-clause-watched
returns-in_err-tell-clause-watched g c = g.met.W.Watches.again _ _ _ c.loop-part.invariant.watched c.in_err-tell.ensures.watched

-- all rows were fed
pub returns-clause-told : goal.returns-clause-told
returns-clause-told g c =
    let s = c.part.inside in
    let is = c.loop-part.invariant in
    let none = none_left (work_at s.work) s.from s.at s.row s.to s.groups c.part.invariant.0 (omega (arith, c.part.invariant.0.ordered, c.loop-part-test.false)) in
    (is.told.0, omega (arith, is.told.1, none, ap (λ (p : PartAt). p.left) c.part.view_is), is.told.2)
