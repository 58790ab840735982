use Rattle.std.proofs.Common.{◌≡◌, ℕ, List, true, length, map, ap, sym, ◌∙◌, subst}
use Rattle.scan_base.specs.View.{pred_of}
use Rattle.typed_plan.specs.declared.plan.Columns.{Columns}
use Rattle.row_sources.specs.FilteredSource.{sourced_pick}
use Rattle.batch_skipping.specs.ChosenColumns.{are_within}
use Rattle.row_sources.specs.ChosenColumns.{numbers_at}
use Rattle.row_sources.specs.JoinedRows.{source_at}
use Rattle.row_sources.specs.declared.picker.Picker.{Picker}
use Rattle.row_sources.specs.Picking.{IsPick, pick_of}
use Rattle.row_sources.specs.Running.{picked_of}
use Rattle.row_sources.proofs.ShownCells.{numbers_there, shown_is}
use Rattle.row_sources.proofs.build.FilteredSource.shown.Goals as goal

items_are : (columns : Columns) (shown slice columns_read : List ℕ) → shown ≡ numbers_at columns slice → slice ≡ columns_read → shown ≡ numbers_at columns columns_read
items_are columns shown slice columns_read e f = e ∙ ap (numbers_at columns) f

pub new-requires-2-clause-pick : goal.new-requires-2-clause-pick
new-requires-2-clause-pick c =
    let is = c.requires.sourced in
    let columns = c.args.columns.now in
    let read = c.args.self.columns.items in
    let width = length (source_at c.args.self.source).types in
    let items = items_are columns c.in_ok-shown.shown.items c.as_slice.result.now read c.in_ok-shown.ensures c.as_slice.ensures.value in
    subst (λ (picker : Picker). IsPick width (pick_of picker)) (sym c.in_ok-new.ensures.ok) (record {
      read = is.pick.read;
      shown = subst (λ (numbers : List ℕ). are_within width numbers ≡ true) (sym items) (numbers_there columns read width c.requires.there is.pick.shown);
      named = is.pick.named;
    })

pub returns : goal.returns
returns c =
    let columns = c.args.columns.now in
    let read = c.args.self.columns.items in
    let source = source_at c.args.self.source in
    let items = items_are columns c.in_ok-shown.shown.items c.as_slice.result.now read c.in_ok-shown.ensures c.as_slice.ensures.value in
    c.new-2.ensures ∙ ap (λ (picker : Picker). picked_of (pick_of picker) source) c.in_ok-new.ensures.ok
    ∙ ap (λ (numbers : List ℕ). picked_of (record { filters = map pred_of c.args.self.filters.items; read = read; shown = numbers }) source) items
    ∙ shown_is columns (sourced_pick c.args.self) source c.requires.there
