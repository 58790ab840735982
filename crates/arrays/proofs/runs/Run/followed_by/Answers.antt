use Rattle.std.proofs.Common.{◌≡◌, ◌∙◌, ◌+◌, List, length, map, take, ap, arith}
use Rattle.std.specs.Arc.{arc_value}
use Rattle.std.proofs.lemmas.List.{length-append}
use Rattle.arrays.specs.Texts.{TextsAt, texts_values}
use Rattle.arrays.specs.inside.Runs.{parts_values}
use Rattle.arrays.proofs.Entries.{length-texts_values}
use Rattle.arrays.proofs.Joined.{values_within}
use Rattle.arrays.proofs.runs.Run.followed_by.Goals as goal

pub with-requires : goal.with-requires
with-requires c =
    let items = c.deref-part-items.result.now in
    let item = c.part-item.result in
    let before = parts_values (map arc_value (take c.loop-part.part-index items)) in
    let within = values_within texts_values arc_value items c.loop-part.part-index item c.loop-part-test.true c.part-item.is in
    let all : length (parts_values (map arc_value items)) ≡ length c.args.other.now =
    ap length (ap (λ (handles : List _). parts_values (map arc_value handles)) c.deref-part-items.ensures.value ∙ c.other.view_is) in
    let so_far : length c.loop-part.all ≡ length c.args.self + length before = ap length c.loop-part.invariant ∙ length-append c.args.self before in
    let same : (arc_value c.in_ok-try_clone.field-0).len ≡ (arc_value item).len = ap (λ (cells : TextsAt). cells.len) c.in_ok-try_clone.ensures in
    omega (arith, c.requires, within, length-texts_values (arc_value item), all, so_far, same)
