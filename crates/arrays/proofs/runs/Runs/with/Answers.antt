use Rattle.std.proofs.Common.{◌≡◌, ◌∙◌, ◌++◌, List, length, map, ap, arith}
use Rattle.std.specs.Arc.{arc_value}
use Rattle.std.proofs.lemmas.List.{take_rest}
use Rattle.scan_base.specs.declared.value.Value.{Value}
use Rattle.arrays.specs.Texts.{TextsAt, texts_values}
use Rattle.arrays.specs.inside.Runs.{runs_values}
use Rattle.arrays.proofs.Joined.{values_left, runs_with}
use Rattle.arrays.proofs.runs.Runs.with.Goals as goal

pub joined-requires : goal.joined-requires
joined-requires c =
    let runs = c.as_slice-runs.result.now in
    let left = values_left (λ (run : List Value). run) arc_value runs c.kept-kept.result.0 in
    let all : length (runs_values (map arc_value runs)) ≡ length c.args.self.now =
    ap length (ap (λ (handles : List _). runs_values (map arc_value handles)) c.as_slice-runs.ensures.value ∙ c.self.view_is) in
    rw (take_rest runs c.kept-kept.result.0) (omega (arith, c.requires, left, all))

pub with-requires : goal.with-requires
with-requires c =
    let runs = c.as_slice-runs.result.now in
    let left = values_left (λ (run : List Value). run) arc_value runs c.kept-kept.result.0 in
    let all : length (runs_values (map arc_value runs)) ≡ length c.args.self.now =
    ap length (ap (λ (handles : List _). runs_values (map arc_value handles)) c.as_slice-runs.ensures.value ∙ c.self.view_is) in
    let rest = ap (λ (handles : List _). length (runs_values (map arc_value handles))) (take_rest runs c.kept-kept.result.0) in
    let same : (arc_value c.in_ok-new.field-0).len ≡ c.args.part.len = ap (λ (cells : TextsAt). cells.len) c.in_ok-new.ensures.ok in
    omega (arith, c.requires, left, all, rest, ap length c.in_ok-joined.ensures, same)

pub returns : goal.returns
returns c =
    let runs = c.as_slice-runs.result.now in
    let last = c.in_ok-new-2.ensures.ok ∙ c.in_ok-last.ensures ∙ ap (λ (cells : TextsAt). c.in_ok-joined.field-0 ++ texts_values cells) c.in_ok-new.ensures.ok in
    runs_with arc_value runs c.in_ok-all.all.items c.push.new.self.items c.in_ok-joined.field-0 (texts_values c.args.part) c.in_ok-new-2.field-0 c.kept-kept.result.0
    c.in_ok-all.ensures c.in_ok-joined.ensures last c.in_ok-push.ensures.items
    ∙ ap (λ (values : List Value). values ++ texts_values c.args.part)
    (ap (λ (handles : List _). runs_values (map arc_value handles)) c.as_slice-runs.ensures.value ∙ c.self.view_is)
