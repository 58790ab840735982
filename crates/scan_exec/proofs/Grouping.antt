-- Groups of rows, and what is answered of them.
use Rattle.std.proofs.Common.{◌≡◌, ℕ, List, ◌++◌, map, Option, Some, None, Result, Ok, Err, refl, sym, ap, ◌∙◌, subst}
use Rattle.std.specs.List.{flat_map}
use Rattle.std.specs.Result.{IfOk}
use Rattle.std.specs.declared.alloc.AllocError.{AllocError}
use Rattle.std.specs.Global.{Global}
use Rattle.std.specs.Prelude.{Vec}
use Rattle.std.proofs.lemmas.List.{map-append}
use Rattle.arrow_types.specs.Answer.{copied_type}
use Rattle.arrow_types.specs.declared.data_type.DataType.{DataType}
use Rattle.arrays.specs.Batch.{BatchAt, rows_of}
use Rattle.arrays.specs.TypedLayouts.{AreOf}
use Rattle.scan_base.specs.declared.fault.Fault.{Fault}
use Rattle.table_versions.specs.Table.{Row}
use Rattle.typed_plan.specs.declared.plan.Aggregate.{Aggregate}
use Rattle.typed_plan.specs.Plan.{answered, groups_by}
use Rattle.typed_plan.specs.TypedPlans.{item_type}
use Rattle.grouping.specs.Answers.{AnswersAt, Finishes, GivesAnswer, IsAnswerOf, HasFirstRows, answer_types, answers_ahead}
use Rattle.grouping.specs.FedRows.{GroupsAt}
use Rattle.scan_exec.specs.declared.grouped_rows.MadeGroups.{MadeGroups}
use Rattle.scan_exec.specs.declared.grouped_rows.Stage.{Stage}
use Rattle.scan_exec.specs.declared.grouped_rows.Stage.TheVariants.{Waiting, Made}
use Rattle.scan_exec.specs.declared.grouped_rows.GroupSpec.{GroupSpec}
use Rattle.scan_exec.specs.Giving.{GivingAt, GivingOn, GivesNext}
use Rattle.row_sources.specs.CollectedRows.{AreCollected}
use Rattle.scan_exec.specs.GroupedRows.{AnswersAll, AreMade, IsAnswering, of_groups, wanted_rows, wanted_types}
use Rattle.scan_exec.specs.GroupWork.{AreGroupsOf, GroupWorkAt, passing}
use Rattle.row_sources.specs.Picking.{holds, pick_of}
use Rattle.row_sources.specs.Running.{RowsAt, GoesOn}

-- ---- the answer

-- the types of what groups answer
abbrev types_answered : List DataType → List ℕ → List Aggregate → List DataType
types_answered types keys items = map copied_type (map (item_type keys types) items)

-- what is grouped to answer what is wanted
abbrev pub wanted_work : GroupSpec → List BatchAt → GroupWorkAt
wanted_work wanted batches = record {
  batches = batches;
  types = wanted.types.items;
  keys = wanted.keys.items;
  items = wanted.items.items;
  pick = pick_of wanted.picker;
}

module _ (wanted : GroupSpec) (batches : List BatchAt) (fed : GroupsAt) (is : AreGroupsOf (wanted_work wanted batches) (passing (pick_of wanted.picker) (flat_map rows_of batches)) fed) where
  -- they are grouped by what is wanted
  types_are : types_answered fed.types fed.keys fed.items ≡ wanted_types wanted
  types_are =
      ap (λ (some : List DataType). types_answered some fed.keys fed.items) is.types_are
      ∙ ap (λ (some : List ℕ). types_answered wanted.types.items some fed.items) is.keys_are
      ∙ ap (types_answered wanted.types.items wanted.keys.items) is.items_are

  -- so the answer is what is wanted
  answers_all : (answers : AnswersAt) → IsAnswerOf fed answers → AnswersAll batches wanted answers
  answers_all answers answer =
      let rows = passing (pick_of wanted.picker) (flat_map rows_of batches) in
      record {
        over = subst (λ (some : List BatchAt). HasFirstRows some answers) is.batches_are answer.over;
        types = answer.types ∙ types_are;
        rows = ap (λ (some : List BatchAt). answers_ahead some answers) (sym is.batches_are)
            ∙ answer.ahead rows is.held
            ∙ ap (λ (some : List Aggregate). map (λ group. map (answered group) some) (groups_by fed.keys rows)) is.items_are
            ∙ ap (λ (some : List ℕ). map (λ group. map (answered group) wanted.items.items) (groups_by some rows)) is.keys_are;
      }

  -- or it was refused
  pub finished : (result : Result AnswersAt Fault) → Finishes fed result → IfOk result (AnswersAll batches wanted)
  finished (Ok answers) finishes =
      let with : Option Fault → GroupsAt = λ refused. record fed { refused = refused } in
      let answer : IsAnswerOf (with None) answers = subst (λ (refused : Option Fault). Finishes (with refused) (Ok answers)) is.refused finishes in
      answers_all answers (subst (λ (refused : Option Fault). IsAnswerOf (with refused) answers) (sym is.refused) answer)
  finished (Err fault) finishes = tt

-- of all rows that were collected
pub are_made : (wanted : GroupSpec) (before after : RowsAt) (made : MadeGroups) → AreCollected before made.batches.items after →
    AnswersAll made.batches.items wanted made.answers → AreMade before wanted made after
are_made wanted before after made all answers = record {
  rows = answers.rows ∙ ap (wanted_rows wanted) all.rows;
  answering = record { over = answers.over; types = answers.types };
  all = all.all;
}

-- ---- what is given of it

-- rows of groups come of no batch
abbrev of_none : Row → Option ℕ × Row
of_none row = (None, row)

-- where rows go on, so do their groups
pub groups_on : (wanted : GroupSpec) (before after : RowsAt) (stage then : Stage) → GoesOn before after → GivingOn (of_groups before wanted stage) (of_groups after wanted then)
groups_on wanted before after stage then on = record { types = refl; batches = on.batches; opening = on.opening; opened = on.opened }

-- the rows that were waited for are those of the answer
pub made_ahead : (wanted : GroupSpec) (before after : RowsAt) (made : MadeGroups) → AreMade before wanted made after →
    (of_groups before wanted Waiting).ahead ≡ map of_none (answers_ahead made.batches.items made.answers)
made_ahead wanted before after made is = ap (map of_none) (sym is.rows)

-- a batch of the answer is given
gives_answer : (before after : GivingAt) (batches : List BatchAt) (answers then : AnswersAt) → answer_types answers ≡ before.types →
    before.ahead ≡ map of_none (answers_ahead batches answers) → after.ahead ≡ map of_none (answers_ahead batches then) →
    GivingOn before after → after.opened ≡ before.batches → (result : Result (Option BatchAt) AllocError) →
    GivesAnswer batches answers result then → GivesNext before result after
gives_answer before after batches answers then types ahead still on opened (Ok (Some batch)) gives = record {
  number = None;
  next = ahead ∙ ap (map of_none) gives.next ∙ map-append of_none (rows_of batch) (answers_ahead batches then)
      ∙ ap (λ (some : List (Option ℕ × Row)). map of_none (rows_of batch) ++ some) (sym still);
  latest = tt;
  some = gives.some;
  few = gives.few;
  typed = subst (λ (some : List DataType). AreOf some batch.columns) types gives.typed;
  on = on;
}
gives_answer before after batches answers then types ahead still on opened (Ok None) gives = record {
  none = ahead ∙ ap (map of_none) gives.0;
  still = still ∙ ap (λ (some : AnswersAt). map of_none (answers_ahead batches some)) gives.1 ∙ ap (map of_none) gives.0;
  all = opened;
  on = on;
}
gives_answer before after batches answers then types ahead still on opened (Err refused) gives = on

-- and the answer goes on over the same batches
pub gives_made : (rows : RowsAt) (wanted : GroupSpec) (before : GivingAt) (made then : MadeGroups) → IsAnswering wanted made → wanted_types wanted ≡ before.types →
    before.ahead ≡ map of_none (answers_ahead made.batches.items made.answers) → GivingOn before (of_groups rows wanted (Made then)) →
    rows.opened ≡ before.batches → then.batches ≡ made.batches → (result : Result (Option BatchAt) AllocError) →
    GivesAnswer made.batches.items made.answers result then.answers → GivesNext before result (of_groups rows wanted (Made then))
gives_made rows wanted before made then is types ahead on opened same result gives =
    gives_answer before (of_groups rows wanted (Made then)) made.batches.items made.answers then.answers (is.types ∙ types) ahead
    (ap (λ (some : Vec BatchAt Global). map of_none (answers_ahead some.items then.answers)) same) on opened result gives

-- where no group was answered the answer is as it was
unmoved : (wanted : GroupSpec) (made then : MadeGroups) → IsAnswering wanted made → then.batches ≡ made.batches → then.answers ≡ made.answers → IsAnswering wanted then
unmoved wanted made then is same still = record {
  over = rw (same, still) is.over;
  types = ap answer_types still ∙ is.types;
}

-- what holds of the answer then
pub still_answering : (wanted : GroupSpec) (made then : MadeGroups) → IsAnswering wanted made → then.batches ≡ made.batches →
    (result : Result (Option BatchAt) AllocError) → GivesAnswer made.batches.items made.answers result then.answers → IsAnswering wanted then
still_answering wanted made then is same (Ok (Some batch)) gives =
    record { over = rw same gives.over; types = gives.types ∙ is.types }
still_answering wanted made then is same (Ok None) gives = unmoved wanted made then is same gives.1
still_answering wanted made then is same (Err refused) gives = unmoved wanted made then is same gives
