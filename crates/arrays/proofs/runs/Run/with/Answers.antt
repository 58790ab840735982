use Rattle.std.proofs.Common.{◌≡◌, ◌∙◌, ◌+◌, ◌++◌, ◌∷◌, ◌<◌, ◌≤◌, [], ℕ, List, false, true, length, map, ap, sym, arith}
use Rattle.std.specs.Arc.{arc_value}
use Rattle.std.proofs.lemmas.List.{map-append}
use Rattle.scan_base.specs.Value.{is_null}
use Rattle.arrays.specs.Texts.{TextsAt, texts_slot}
use Rattle.arrays.proofs.Joined.{run_more}
use Rattle.arrays.proofs.runs.Run.with.Goals as goal
use Rattle.arrays.proofs.runs.Run.with.Goals.{then-nulls, else-nulls}

pub invariant_of-result : goal.invariant_of-result
invariant_of-result c =
    let part = arc_value c.args.part in
    let handles = c.self.inside.parts.items in
    let parts : map arc_value c.push-2.new.self.items ≡ map arc_value handles ++ part ∷ [] =
    ap (λ (all : List _). map arc_value all) c.in_ok-push-2.ensures.items ∙ map-append arc_value handles (c.args.part ∷ []) in
    let count : c.len.result ≡ part.len = c.len.ensures.count ∙ ap (λ (cells : TextsAt). cells.len) c.deref.ensures in
    let small : c.self.inside.len + part.len ≤ 16777216 = omega (arith, c.requires, ap length c.self.view_is, c.self.invariant.counted) in
    let none : c.if-nulls.nulls ≡ false → (c.self.inside.nulls ≡ false) × ((place : ℕ) → place < part.len → is_null (texts_slot part place) ≡ false) =
    λ no. elim c.if-nulls.branch [
      | then-nulls w ↦ absurd (let no_bit : true ≡ false = sym w.if-nulls.true ∙ sym w.nulls-is ∙ no in let none : ⊥ = cc in none)
      | else-nulls w ↦ (w.if-nulls.false, rw w.deref-else-nulls.ensures at w.may_have_nulls-nulls.ensures (sym w.nulls-is ∙ no))
    ] in
    rw (parts, c.in_ok-push.ensures.items, count)
    (run_more (map arc_value handles) c.self.inside.starts.items part c.self.inside.len c.self.inside.nulls c.if-nulls.nulls c.self.invariant small none)
