use Rattle.std.proofs.Common.{◌≡◌, map, refl, sym, ap, ◌∙◌}
use Rattle.typed_plan.specs.declared.plan.Output.{Output}
use Rattle.typed_plan.specs.declared.plan.Output.TheVariants.{Groups}
use Rattle.typed_plan.specs.TypedPlans.{HasOutput, is_grouping}
use Rattle.scan_exec.specs.declared.grouped_rows.GroupSpec.{GroupSpec}
use Rattle.scan_exec.specs.Answering.{answer_for}
use Rattle.scan_exec.specs.DistinctItems.{KeyedBy, StandFor, item_by}
use Rattle.scan_exec.specs.ShownGroups.{with_cells}
use Rattle.scan_exec.proofs.GroupsOf.{begins, gives_groups}
use Rattle.scan_exec.proofs.KeyedOnce.{items_there, keyed_same}
use Rattle.scan_exec.proofs.ShownGroups.{answers_same}
use Rattle.scan_exec.proofs.scan_answer.answer_of.Goals as goal

pub invariant_of-groups : goal.invariant_of-groups
invariant_of-groups c =
    let once = c.in_ok-once-in-Groups.once in
    let keyed : KeyedBy c.in-Groups.keys once.columns.items once.places.items = rw c.as_slice.ensures at c.in_ok-once-in-Groups.ensures in
    let made : c.in_ok-named-in-Groups.named.items ≡ map (item_by once.places.items) c.in-Groups.items =
    rw c.as_slice-in-Groups.ensures at c.in_ok-named-in-Groups.ensures in
    let some = c.in_ok-different-in-Groups.different.items.items in
    let stand : StandFor (map (item_by once.places.items) c.in-Groups.items) some c.in_ok-different-in-Groups.different.places.items =
    rw (c.as_slice-in-Groups-2.ensures.value, made) at c.in_ok-different-in-Groups.ensures in
    let has : HasOutput (Groups c.in-Groups.keys c.in-Groups.items) c.args.source.rows.types = rw c.in-Groups.is at c.requires.output in
    begins c.args.source c.in_ok-rows-in-Groups.field-0 c.in_ok-rows-in-Groups.ensures once.columns.items some _
    refl refl refl refl (
      keyed.among _ has.0,
      stand.among _ (items_there c.in-Groups.keys once.columns.items once.places.items keyed c.args.source.rows.types c.in-Groups.items has.1),
    )
    c.requires.front (c.requires.few (ap is_grouping c.in-Groups.is))

pub returns-in_ok-different-in-Groups-clause-answer : goal.returns-in_ok-different-in-Groups-clause-answer
returns-in_ok-different-in-Groups-clause-answer c =
    let once = c.in_ok-once-in-Groups.once in
    let keyed : KeyedBy c.in-Groups.keys once.columns.items once.places.items = rw c.as_slice.ensures at c.in_ok-once-in-Groups.ensures in
    let items = map (item_by once.places.items) c.in-Groups.items in
    let made : c.in_ok-named-in-Groups.named.items ≡ items = rw c.as_slice-in-Groups.ensures at c.in_ok-named-in-Groups.ensures in
    let has : HasOutput (Groups c.in-Groups.keys c.in-Groups.items) c.args.source.rows.types = rw c.in-Groups.is at c.requires.output in
    let source = c.in_ok-rows-in-Groups.field-0 in
    let different = c.in_ok-different-in-Groups.different in
    let stand : StandFor items different.items.items different.places.items =
    rw (c.as_slice-in-Groups-2.ensures.value, made) at c.in_ok-different-in-Groups.ensures in
    let wanted : GroupSpec = record {
      picker = source.picker;
      seed = c.args.seed;
      types = source.types;
      keys = once.columns;
      items = different.items;
    } in
    c.new-shown.ensures ∙ ap (with_cells different.places.items)
    (gives_groups c.args.source source c.in_ok-rows-in-Groups.ensures once.columns.items different.items.items wanted refl refl refl refl)
    ∙ answers_same c.args.source.rows once.columns.items items different.items.items different.places.items stand
    ∙ keyed_same c.args.source.rows c.in-Groups.keys once.columns.items once.places.items c.in-Groups.items keyed has.1
    ∙ ap (λ (output : Output). answer_for output c.args.source.rows) (sym c.in-Groups.is)
