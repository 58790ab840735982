use Rattle.std.proofs.Common.{◌≡◌, ◌∙◌, ◌+◌, ◌-◌, ◌<◌, ◌≤◌, ℕ, List, length, map, drop, slice_get, ap, sym, arith}
use Rattle.std.specs.Arc.{arc_value}
use Rattle.scan_base.specs.declared.value.Value.{Value}
use Rattle.arrays.specs.inside.Runs.{runs_values}
use Rattle.arrays.proofs.Entries.{within_list, behind_list}
use Rattle.arrays.proofs.Joined.{values_ahead}
use Rattle.arrays.proofs.runs.Runs.get.Goals as goal

pub returns-then-left-len : goal.returns-then-left-len
returns-then-left-len c =
    let items = c.deref-run-items.result.now in
    let run = arc_value c.run-item.result in
    let left = c.loop-run.left in
    let behind = runs_values (map arc_value (drop (c.loop-run.run-index + 1) items)) in
    let low : left < length run = omega (arith, c.if-left-len.true, c.len.ensures, ap length c.deref.ensures) in
    let ahead = values_ahead (λ (values : List Value). values) arc_value items c.loop-run.run-index c.run-item.result c.loop-run-test.true c.run-item.is in
    sym c.value_at.ensures
    ∙ ap (λ (values : List Value). slice_get values left) c.deref-then-left-len.ensures
    ∙ sym (within_list run behind left low)
    ∙ ap (λ (values : List Value). slice_get values left) (sym ahead)
    ∙ c.loop-run.invariant
    ∙ ap (λ (handles : List _). slice_get (runs_values (map arc_value handles)) c.args.index) c.deref-run-items.ensures.value
    ∙ ap (λ (values : List Value). slice_get values c.args.index) c.self.view_is

pub loop-run-preserved : goal.loop-run-preserved
loop-run-preserved c =
    let items = c.deref-run-items.result.now in
    let run = arc_value c.run-item.result in
    let left = c.loop-run.left in
    let behind = runs_values (map arc_value (drop (c.loop-run.run-index + 1) items)) in
    let high : length run ≤ left = omega (arith, c.if-left-len.false, c.len.ensures, ap length c.deref.ensures) in
    let count : c.len-left.result ≡ length run = c.len-left.ensures ∙ ap length c.deref-in-loop-run.ensures in
    let ahead = values_ahead (λ (values : List Value). values) arc_value items c.loop-run.run-index c.run-item.result c.loop-run-test.true c.run-item.is in
    ap (λ (n : ℕ). slice_get behind (left - n)) count
    ∙ sym (behind_list run behind left high)
    ∙ ap (λ (values : List Value). slice_get values left) (sym ahead)
    ∙ c.loop-run.invariant
