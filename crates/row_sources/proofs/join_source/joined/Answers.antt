use Rattle.std.proofs.Common.{◌≡◌, length, map, vec_len, ap, sym, ◌∙◌, subst, rules}
use Rattle.std.specs.List.{range_with_len}
use Rattle.join_batches.specs.Joiner.{joined_types}
use Rattle.scan_base.specs.View.{pred_of}
use Rattle.typed_plan.specs.TypedPlans.{type_at}
use Rattle.row_sources.specs.FilteredSource.{filtered_source_at}
use Rattle.row_sources.specs.JoinedRows.{IsJoined, joined_at}
use Rattle.row_sources.specs.Picking.{IsPick, PickAt}
use Rattle.row_sources.specs.Running.{RowsAt, picked_of}
use Rattle.row_sources.proofs.BeginJoin.{all_pick}
use Rattle.row_sources.proofs.BeginPick.{all_types}
use Rattle.row_sources.proofs.BeginTree.{pick_is}
use Rattle.row_sources.proofs.join_source.joined.Goals as goal

pub returns-clause-sourced : goal.returns-clause-sourced
returns-clause-sourced c =
    let types = joined_types c.args.joiner in
    let left : c.in_ok-left.left.value ≡ filtered_source_at c.args.left = c.in_ok-left.ensures.ok ∙ c.in_ok-rows.ensures in
    let size : vec_len c.args.types ≡ length c.args.types.items = search rules in
    let numbers : c.in_ok-columns.columns.items ≡ range_with_len 0 (length types) =
    c.in_ok-columns.ensures ∙ ap (range_with_len 0) (c.len.ensures ∙ size ∙ ap length c.requires.types) in
    let pick = pick_is c.new-2.result.items c.in_ok-columns.columns.items (range_with_len 0 (length types)) c.new-2.ensures.items numbers in
    record {
      source = subst (λ (l : RowsAt). IsJoined l c.args.joiner 0) (sym left) c.requires.joined;
      pick = subst (IsPick (length types)) (sym pick) (all_pick (length types));
      types = c.requires.types ∙ sym (all_types types) ∙ ap (map (type_at types)) (sym numbers);
    }

pub returns-clause-joined : goal.returns-clause-joined
returns-clause-joined c =
    let types = joined_types c.args.joiner in
    let left : c.in_ok-left.left.value ≡ filtered_source_at c.args.left = c.in_ok-left.ensures.ok ∙ c.in_ok-rows.ensures in
    let size : vec_len c.args.types ≡ length c.args.types.items = search rules in
    let numbers : c.in_ok-columns.columns.items ≡ range_with_len 0 (length types) =
    c.in_ok-columns.ensures ∙ ap (range_with_len 0) (c.len.ensures ∙ size ∙ ap length c.requires.types) in
    let pick = pick_is c.new-2.result.items c.in_ok-columns.columns.items (range_with_len 0 (length types)) c.new-2.ensures.items numbers in
    let made : PickAt = record { filters = map pred_of c.new-2.result.items; read = c.in_ok-columns.columns.items; shown = c.in_ok-columns.columns.items } in
    ap (λ (l : RowsAt). picked_of made (joined_at l c.args.joiner 0)) left
    ∙ ap (λ (p : PickAt). picked_of p (joined_at (filtered_source_at c.args.left) c.args.joiner 0)) pick
