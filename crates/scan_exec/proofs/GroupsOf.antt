-- What is grouped of a source.
use Rattle.std.proofs.Common.{◌≡◌, ◌≤◌, ℕ, List, length, map, take, Option, None, refl, sym, ap, ◌∙◌, arith}
use Rattle.std.specs.Prelude.{Vec}
use Rattle.std.specs.Global.{Global}
use Rattle.std.proofs.lemmas.Simd.{map-map}
use Rattle.arrow_types.specs.Answer.{copied_type}
use Rattle.arrow_types.specs.declared.data_type.DataType.{DataType}
use Rattle.scan_base.specs.Limits.{most_rows}
use Rattle.table_versions.specs.Table.{Row}
use Rattle.typed_plan.specs.declared.plan.Aggregate.{Aggregate}
use Rattle.typed_plan.specs.declared.plan.Output.TheVariants.{Groups}
use Rattle.typed_plan.specs.Plan.{answered, groups_by}
use Rattle.typed_plan.specs.TypedPlans.{HasOutput, item_type}
use Rattle.row_sources.specs.declared.picker.Picker.{Picker}
use Rattle.row_sources.specs.declared.row_source.UnfilteredRows.{UnfilteredRows}
use Rattle.row_sources.specs.RowSource.{SourceAt}
use Rattle.row_sources.specs.UnfilteredRows.{IsUnfiltered}
use Rattle.scan_exec.specs.declared.grouped_rows.Stage.TheVariants.{Waiting}
use Rattle.scan_exec.specs.declared.grouped_rows.GroupSpec.{GroupSpec}
use Rattle.scan_exec.specs.Answering.{answer_for}
use Rattle.row_sources.specs.CollectedRows.{plain_rows}
use Rattle.scan_exec.specs.Giving.{GivingAt}
use Rattle.scan_exec.specs.GroupWork.{passing}
use Rattle.scan_exec.specs.GroupedRows.{IsGrouped, IsGroupSpec, of_groups, wanted_rows, wanted_types}
use Rattle.row_sources.specs.Picking.{pick_of}

module _ (source : SourceAt) (made : UnfilteredRows) (is : IsUnfiltered source made) (keys : List ℕ) (items : List Aggregate) (wanted : GroupSpec)
    (p : wanted.picker ≡ made.picker) (t : wanted.types ≡ made.types) (k : wanted.keys.items ≡ keys) (i : wanted.items.items ≡ items) where
  types_are : wanted.types.items ≡ source.rows.types
  types_are = ap (λ (types : Vec DataType Global). types.items) t ∙ is.types

  -- what is wanted names what is there
  named : HasOutput (Groups keys items) source.rows.types → IsGroupSpec wanted
  named has = record {
    has = rw (types_are, k, i) (record { keyed = has.0; typed = has.1 });
    pick = rw (p, types_are) is.pick;
  }

  -- so the rows can be grouped
  pub begins : HasOutput (Groups keys items) source.rows.types → take (length source.rows.opened) source.rows.batches ≡ source.rows.opened →
      source.count ≤ most_rows → IsGrouped made.rows wanted Waiting
  begins has front few = record {
    front = rw (is.batches, is.opened) front;
    holds = record {
      named = named has;
      types = is.typed ∙ sym types_are;
      few = omega (arith, is.count, few);
    };
  }

  -- the groups are those of the rows that the filters let through
  same_rows : passing (pick_of wanted.picker) (plain_rows made.rows.ahead) ≡ plain_rows source.rows.ahead
  same_rows = ap (λ (picker : Picker). passing (pick_of picker) (plain_rows made.rows.ahead)) p ∙ is.kept

  -- and they are what the output takes
  pub gives_groups : of_groups made.rows wanted Waiting ≡ answer_for (Groups keys items) source.rows
  gives_groups =
      let giving : List DataType → List Row → List ℕ → List ℕ → GivingAt = λ types some batches opened.
      record { types = types; ahead = map (λ (row : Row). (None, row)) some; batches = batches; opened = opened; unseen = 0 } in
      let groups = groups_by keys (plain_rows source.rows.ahead) in
      let shown : List DataType = map copied_type (map (item_type keys source.rows.types) items) in
      let types : wanted_types wanted ≡ shown = rw (k, types_are, i) refl in
      let answers : wanted_rows wanted (plain_rows made.rows.ahead) ≡ map (λ group. map (answered group) items) groups =
      rw (k, i, same_rows) refl in
      ap (λ (some : List DataType). giving some (wanted_rows wanted (plain_rows made.rows.ahead)) made.rows.batches made.rows.opened) types
      ∙ ap (λ (some : List Row). giving shown some made.rows.batches made.rows.opened) answers
      ∙ ap (λ (some : List ℕ). giving shown (map (λ group. map (answered group) items) groups) some made.rows.opened) is.batches
      ∙ ap (λ (some : List ℕ). giving shown (map (λ group. map (answered group) items) groups) source.rows.batches some) is.opened
      ∙ ap (λ (some : List (Option ℕ × Row)). record { types = shown; ahead = some; batches = source.rows.batches; opened = source.rows.opened; unseen = 0 })
      (map-map (λ (row : Row). (None, row)) (λ group. map (answered group) items) groups)
