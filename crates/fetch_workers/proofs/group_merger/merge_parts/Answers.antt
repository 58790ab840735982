use Rattle.std.proofs.Common.{◌≡◌, ℕ, Ok, length, take, sym, ◌∙◌, subst, arith}
use Rattle.std.specs.List.{flat_map}
use Rattle.arrays.specs.Batch.{rows_of}
use Rattle.grouping.specs.FedRows.{HasMerged}
use Rattle.fetch_workers.specs.Merging.{GroupsOfPartAt}
use Rattle.fetch_workers.specs.Parts.{batches_before}
use Rattle.scan_exec.specs.GroupWork.{AreGroupsOf, passing, work_at}
use Rattle.fetch_workers.proofs.Merged.{all_are, are_alike, first_are, merge_few, more_merged, new_are}
use Rattle.fetch_workers.proofs.group_merger.merge_parts.Goals as goal

pub loop-groups-init : goal.loop-groups-init
loop-groups-init g c =
    let work = work_at c.args.work.now in
    let parts = g.P.Answers.count c.args.answers.now in
    let next = rw (c.in_ok-first.was, c.in-Some.is) at c.next_groups.ensures.groups in
    let one : g.P.Answers.given c.next_groups.new.answers ≡ 1 = omega (arith, next.2, c.requires.begin) in
    let at : GroupsOfPartAt work parts 0 (Ok c.in-Some.first) = subst (λ (n : ℕ). GroupsOfPartAt work parts n (Ok c.in-Some.first)) c.requires.begin next.0 in (
      c.next_groups.ensures.count,
      c.next_groups.ensures.ready,
      omega (arith, next.1, next.2, c.next_groups.ensures.count),
      subst (λ (n : ℕ). AreGroupsOf work (passing work.pick (flat_map rows_of (take (batches_before (length work.batches) parts n) work.batches))) c.in-Some.first) (sym one)
          (first_are work parts c.in-Some.first at),
      c.in_ok-first.ensures.watch,
      c.next_groups.ensures.watched,
    )

pub merge-requires-clause-alike : goal.merge-requires-clause-alike
merge-requires-clause-alike g c =
    let work = work_at c.args.work.now in
    let next = rw (c.in_ok-part.was, c.in-Some-2.is) at c.next_groups-in-loop-groups.ensures.groups in
    are_alike work c.loop-groups.groups c.in-Some-2.part _ _ c.loop-groups.invariant.3 next.0

pub merge-requires-clause-few : goal.merge-requires-clause-few
merge-requires-clause-few g c none other_none =
    let work = work_at c.args.work.now in
    let parts = g.P.Answers.count c.args.answers.now in
    let n = g.P.Answers.given c.loop-groups.answers in
    let next = rw (c.in_ok-part.was, c.in-Some-2.is, c.loop-groups.invariant.0) at c.next_groups-in-loop-groups.ensures.groups in
    merge_few work parts n c.loop-groups.groups c.in-Some-2.part c.loop-groups.invariant.3 next.0 c.requires.can.can.few

pub loop-groups-preserved : goal.loop-groups-preserved
loop-groups-preserved g c =
    let inv = c.loop-groups.invariant in
    let work = work_at c.args.work.now in
    let parts = g.P.Answers.count c.args.answers.now in
    let n = g.P.Answers.given c.loop-groups.answers in
    let next = rw (c.in_ok-part.was, c.in-Some-2.is, inv.0) at c.next_groups-in-loop-groups.ensures.groups in
    let has : HasMerged c.loop-groups.groups c.in-Some-2.part c.merge.new.self = rw (inv.3.refused, next.0.refused) at c.in_ok-merge.ensures.merged in (
      c.next_groups-in-loop-groups.ensures.count ∙ inv.0,
      c.next_groups-in-loop-groups.ensures.ready,
      omega (arith, next.1, next.2, c.next_groups-in-loop-groups.ensures.count, inv.0),
      subst (λ (m : ℕ). AreGroupsOf work (passing work.pick (flat_map rows_of (take (batches_before (length work.batches) parts m) work.batches))) c.merge.new.self) (sym next.2)
          (more_merged work parts n c.loop-groups.groups c.in-Some-2.part c.merge.new.self inv.3 next.0 has),
      c.in_ok-merge.ensures.ready,
      g.met.L.Watches.again _ _ _ (g.met.L.Watches.again _ _ _ inv.5 c.next_groups-in-loop-groups.ensures.watched) c.in_ok-merge.ensures.watched,
    )

pub returns-in_default-clause-groups : goal.returns-in_default-clause-groups
returns-in_default-clause-groups g c =
    let parts = g.P.Answers.count c.args.answers.now in
    let next = rw (c.in_ok-first.was, c.in_default.is) at c.next_groups.ensures.groups in
    new_are (work_at c.args.work.now) parts c.in_ok-new.field-0 (omega (arith, next.0, c.requires.begin)) c.requires.can.all c.in_ok-new.ensures

pub returns-clause-groups : goal.returns-clause-groups
returns-clause-groups g c =
    let inv = c.loop-groups.invariant in
    let work = work_at c.args.work.now in
    let parts = g.P.Answers.count c.args.answers.now in
    let n = g.P.Answers.given c.loop-groups.answers in
    let next = rw (c.in_ok-part.was, c.in_default-2.is, inv.0) at c.next_groups-in-loop-groups.ensures.groups in
    all_are work parts n c.loop-groups.groups (omega (arith, next.0, inv.2, inv.0)) c.requires.can.all inv.3

pub returns-clause-watched : goal.returns-clause-watched
returns-clause-watched g c = g.met.L.Watches.again _ _ _ c.loop-groups.invariant.5 c.next_groups-in-loop-groups.ensures.watched

pub returns-in_err-merge-clause-watched : goal.returns-in_err-merge-clause-watched
returns-in_err-merge-clause-watched g c =
    g.met.L.Watches.again _ _ _ (g.met.L.Watches.again _ _ _ c.loop-groups.invariant.5 c.next_groups-in-loop-groups.ensures.watched) c.merge.ensures.watched
