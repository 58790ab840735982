use Rattle.std.proofs.Common.{◌≡◌, ◌+◌, refl, sym, ap, ◌∙◌, subst, arith}
use Rattle.group_slots.specs.Adding.{lists_of}
use Rattle.grouping.specs.Answers.{AnswersAt, GivesGroups, HasFirstRows, groups_at}
use Rattle.grouping.specs.inside.Finishing.{groups_in}
use Rattle.grouping.proofs.Giving.{gives, none_left}
use Rattle.grouping.proofs.group_answers.Answers.next.Goals as goal

pub returns-then-left-eq0 : goal.returns-then-left-eq0
returns-then-left-eq0 c =
    let given = ap (λ (answers : AnswersAt). answers.given) c.self.view_is in (
      none_left c.args.batches.now c.args.self.now (groups_in c.shown-answer.result) c.shown-answer.ensures.groups
          (omega (arith, c.groups.ensures, given, c.if-left-eq0.true)),
      refl,
    )

pub returns : goal.returns
returns c =
    let inside = c.self.inside in
    let view : AnswersAt = record {
      types = inside.types.items;
      keys = inside.keys.items;
      items = inside.items.items;
      firsts = inside.firsts.items;
      tallies = lists_of inside.tallies.items;
      given = inside.given;
    } in
    let groups = groups_in c.shown-answer.result in
    let same : groups ≡ groups_at c.args.batches.now view = c.shown-answer.ensures.groups ∙ ap (groups_at c.args.batches.now) (sym c.self.view_is) in
    let over : HasFirstRows c.args.batches.now view = subst (HasFirstRows c.args.batches.now) (sym c.self.view_is) c.requires in
    rw c.rows.ensures (subst (λ (before : AnswersAt). GivesGroups c.args.batches.now before c.in_ok-batch.batch (record view { given = view.given + c.in_ok-batch.batch.rows })) c.self.view_is
    (gives c.args.batches.now view groups c.tried_rows-tried.result c.in_ok-batch.batch same over (omega (arith, c.groups.ensures, c.tried_rows-tried.ensures.within)) c.tried_rows-tried.ensures.few
    c.in_ok-batch.ensures))
