use Rattle.std.proofs.Common.{List, sym, ◌∙◌, subst, arith}
use Rattle.arrays.specs.Batch.{BatchAt}
use Rattle.grouping.specs.Answers.{IsAnswerOf, HasFirstRows}
use Rattle.grouping.specs.FedRows.{HasMerged}
use Rattle.query_cases.proofs.merges.merged_of.Goals as goal

pub merge-requires-clause-alike : goal.merge-requires-clause-alike
merge-requires-clause-alike c = record {
  batches = c.in_ok-others.ensures.batches ∙ sym c.in_ok-groups.ensures.batches;
  types = c.in_ok-others.ensures.types ∙ sym c.in_ok-groups.ensures.types;
  keys = c.in_ok-others.ensures.keys ∙ sym c.in_ok-groups.ensures.keys;
  items = c.in_ok-others.ensures.items ∙ sym c.in_ok-groups.ensures.items;
}

pub merge-requires-clause-few : goal.merge-requires-clause-few
merge-requires-clause-few c none other_none = omega (arith, c.in_ok-groups.ensures.few, c.in_ok-others.ensures.few)

pub next-requires : goal.next-requires
next-requires c =
    let has : HasMerged c.in_ok-groups.groups c.in_ok-others.others c.merge.new.self =
    rw (c.in_ok-groups.ensures.ready, c.in_ok-others.ensures.ready) at c.in_ok-merge.ensures.merged in
    let is : IsAnswerOf c.merge.new.self c.in_ok-answers.answers = rw has.refused at c.in_ok-answers.ensures in
    subst (λ (batches : List BatchAt). HasFirstRows batches c.in_ok-answers.answers) (has.alike.batches ∙ c.in_ok-groups.ensures.batches) is.over
