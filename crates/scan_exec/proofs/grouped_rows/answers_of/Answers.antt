use Rattle.scan_exec.proofs.Grouping.{finished}
use Rattle.scan_exec.proofs.grouped_rows.answers_of.Goals as goal

pub groups_of_all-requires-clause-can : goal.groups_of_all-requires-clause-can
groups_of_all-requires-clause-can g c = rw (c.as_slice.ensures.value, c.as_slice-2.ensures.value, c.as_slice-3.ensures.value) (record {
  batches = c.requires.batches;
  has = c.requires.named.has;
  pick = c.requires.named.pick;
  few = c.requires.few;
})

pub returns-clause-answers : goal.returns-clause-answers
returns-clause-answers g c =
    let wanted = c.args.wanted.now in
    let is = rw (c.as_slice.ensures.value, c.as_slice-2.ensures.value, c.as_slice-3.ensures.value) at c.in_ok-groups.ensures.groups in
    finished wanted c.args.batches.now c.in_ok-groups.groups is c.finish.result c.finish.ensures
