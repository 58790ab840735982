use Rattle.std.proofs.Common.{◌≡◌, ◌≤◌, ◌<◌, ℕ, ◌+◌, ◌-◌, inl, inr, Bool, List, Option, None, subst, sym, ap, ◌∙◌, arith}
use Rattle.scan_base.specs.declared.value.Value.{Value}
use Rattle.arrays.specs.Column.{slot_of, values_of}
use Rattle.arrays.specs.Layout.{layout_slot}
use Rattle.arrays.specs.Number.{byte_width, element_at}
use Rattle.arrays.specs.Validity.{is_valid}
use Rattle.batch_stats.specs.HeldStats.{ends_held}
use Rattle.batch_stats.specs.Stats.{ends_of, with_value}
use Rattle.batch_stats.specs.inside.Slots.{ends_with}
use Rattle.batch_stats.proofs.Coded.{begun, coded, known_more, known_still, looked, own_stands, passed, passed_null}
use Rattle.batch_stats.proofs.Standing.{Stands}
use Rattle.batch_stats.proofs.entries.stats_with.Goals.{then-is_valid+then-insert, else-is_valid, else-is_valid-via-then-is_valid+else-insert, else-is_valid-via-else-is_valid}
use Rattle.batch_stats.proofs.entries.stats_with.Goals as goal

pub loop-place-init : goal.loop-place-init
loop-place-init g c =
    let cells = c.args.cells.now in
    let column = c.args.column.now in
    let start = c.args.start in
    let at : ℕ = element_at (byte_width cells.index) cells.values start in
    let one : Option (Value × Value) = with_value None (slot_of column (start - column.first)) in
    let after : Option (Value × Value) = ends_held column c.with_slot-stats.result in
    let held : after ≡ one = c.with_slot-stats.ensures.ends ∙ ap (λ (f : ℕ). with_value None (slot_of column (start - f))) c.first-first.ensures in
    let low : column.first ≤ start = c.requires.start.low in
    let code : c.code.result ≡ at =
    c.code.ensures ∙ ap (λ v. element_at g.C.Code.WIDTH v start) c.values.ensures ∙ ap (λ w. element_at w cells.values start) c.requires.width in
    let own : Stands after (coded cells at) =
    subst (λ (e : Option (Value × Value)). Stands e (coded cells at)) (sym held) (own_stands column cells c.requires.layout None start low c.requires.start.valid) in
    let only : (k : ℕ) → g.S.CodeSet.has c.insert.new.self k → k ≡ at = λ k has. elim (c.insert.ensures.all k has) [
      | inl same ↦ same ∙ code
      | inr before ↦ c.requires.known k before
    ] in
    record {
      low = omega (arith, low);
      ends = ap (λ e. ends_with e (layout_slot column.layout) (start + 1) (column.first + column.len)) held ∙ begun column cells c.requires.layout start c.requires.start;
      slots = c.with_slot-stats.ensures.slots;
      known = λ k has. subst (λ (z : ℕ). Stands after (coded cells z)) (sym (only k has)) own;
    }

pub loop-place-preserved : goal.loop-place-preserved
loop-place-preserved g c =
    let cells = c.args.cells.now in
    let column = c.args.column.now in
    let place = c.loop-place.place in
    let slot : ℕ → Value = layout_slot column.layout in
    let behind : ℕ = column.first + column.len in
    let all : Option (Value × Value) = ends_of (values_of column) in
    let before : Option (Value × Value) = ends_held column c.loop-place.stats in
    let at : ℕ = element_at (byte_width cells.index) cells.values place in
    let low : column.first ≤ place = c.loop-place.invariant.low in
    let next_low : column.first ≤ place + 1 = omega (arith, low) in
    let high : place < behind =
    let first_is = c.first.ensures in let len_is = c.len.ensures.count in let test = c.loop-place-test.true in
    omega (arith, first_is, len_is, test) in
    let so_far : ends_with before slot place behind ≡ all = c.loop-place.invariant.ends in
    let stand : (k : ℕ) → g.S.CodeSet.has c.loop-place.known k → Stands before (coded cells k) = c.loop-place.invariant.known in
    let valid : is_valid cells.validity place ≡ c.is_valid.result = sym (c.is_valid.ensures ∙ ap (λ (v : Option (List Bool)). is_valid v place) c.validity.ensures) in
    elim c.if-is_valid.branch [
      | then-is_valid+then-insert w ↦
          let x = w.code-then-is_valid.result in
          let code : x ≡ at =
          w.code-then-is_valid.ensures ∙ ap (λ v. element_at g.C.Code.WIDTH v place) w.values-then-is_valid.ensures ∙ ap (λ n. element_at n cells.values place) c.requires.width in
          let v : Value = slot_of column (place - column.first) in
          let after : Option (Value × Value) = ends_held column w.with_slot-stats-then-insert.result in
          let held : after ≡ with_value before v =
          w.with_slot-stats-then-insert.ensures.ends ∙ ap (λ (f : ℕ). with_value before (slot_of column (place - f))) c.first-first.ensures in
          let step : ends_with after slot (place + 1) behind ≡ all =
          ap (λ (e : Option (Value × Value)). ends_with e slot (place + 1) behind) held ∙ looked column cells c.requires.layout before place low high so_far in
          let own : Stands (with_value before v) (coded cells x) =
          subst (λ (z : ℕ). Stands (with_value before v) (coded cells z)) (sym code) (own_stands column cells c.requires.layout before place low (valid ∙ w.if-is_valid.true)) in
          let more : (k : ℕ) → g.S.CodeSet.has w.insert-then-is_valid.new.self k → Stands after (coded cells k) = λ k has.
          subst (λ (e : Option (Value × Value)). Stands e (coded cells k)) (sym held)
          (known_more cells before x (g.S.CodeSet.has c.loop-place.known) (g.S.CodeSet.has w.insert-then-is_valid.new.self) w.insert-then-is_valid.ensures.all stand v own k has) in
          rw (w.stats-is, w.known-is) (record { low = next_low; ends = step; slots = w.with_slot-stats-then-insert.ensures.slots; known = more })
      | else-is_valid w ↦ elim w.else-is_valid.branch [
        | else-is_valid-via-then-is_valid+else-insert u ↦
            let x = u.code-then-is_valid.result in
            let code : x ≡ at =
            u.code-then-is_valid.ensures ∙ ap (λ v. element_at g.C.Code.WIDTH v place) u.values-then-is_valid.ensures ∙ ap (λ n. element_at n cells.values place) c.requires.width in
            let there : Stands before (coded cells x) = stand x (u.insert-then-is_valid.ensures.found u.if-insert.false) in
            let stands : Stands before (coded cells at) = subst (λ (z : ℕ). Stands before (coded cells z)) code there in
            let step : ends_with before slot (place + 1) behind ≡ all = passed column cells c.requires.layout before place high (valid ∙ u.if-is_valid.true) stands so_far in
            let more : (k : ℕ) → g.S.CodeSet.has u.insert-then-is_valid.new.self k → Stands before (coded cells k) =
            known_still cells before x (g.S.CodeSet.has c.loop-place.known) (g.S.CodeSet.has u.insert-then-is_valid.new.self) u.insert-then-is_valid.ensures.all stand there in
            rw (w.stats-is, w.known-is, u.known-is) (record { low = next_low; ends = step; slots = c.loop-place.invariant.slots; known = more })
        | else-is_valid-via-else-is_valid u ↦
            let step : ends_with before slot (place + 1) behind ≡ all = passed_null column cells c.requires.layout before place high (valid ∙ u.if-is_valid.false) so_far in
            rw (w.stats-is, w.known-is, u.known-is) (record { low = next_low; ends = step; slots = c.loop-place.invariant.slots; known = stand })
      ]
    ]
