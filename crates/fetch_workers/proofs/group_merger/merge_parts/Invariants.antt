use Rattle.std.proofs.Common.{◌≡◌, ◌≤◌, ◌-◌, length, take}
use Rattle.std.specs.List.{flat_map}
use Rattle.arrays.specs.Batch.{rows_of}
use Rattle.fetch_workers.specs.Parts.{batches_before}
use Rattle.scan_exec.specs.GroupWork.{AreGroupsOf, passing, work_at}
use Rattle.fetch_workers.proofs.group_merger.merge_parts.Given as goal

-- the groups of the parts so far are merged
abbrev pub invariant-loop-groups : goal.invariant-loop-groups
invariant-loop-groups g l =
    (g.P.Answers.count l.answers ≡ g.P.Answers.count l.fn.answers)
    × g.P.Answers.ready l.answers
    × (g.P.Answers.given l.answers ≤ g.P.Answers.count l.answers)
    × AreGroupsOf (work_at l.work) (passing (work_at l.work).pick
    (flat_map rows_of (take (batches_before (length l.work.shape.batches.now) (g.P.Answers.count l.fn.answers) (g.P.Answers.given l.answers)) l.work.shape.batches.now))) l.groups
    × g.L.Watches.ready l.watch
    × g.L.Watches.watched l.fn.watch l.watch

abbrev pub decreases-loop-groups : goal.decreases-loop-groups
decreases-loop-groups g l = g.P.Answers.count l.answers - g.P.Answers.given l.answers
