use Rattle.std.proofs.Common.{◌≡◌, ◌+◌, ◌<◌, ◌++◌, ◌∷◌, [], ℕ, List, length, map, get_or, take, slice_index, ap, sym, ◌∙◌}
use Rattle.std.proofs.lemmas.List.{map-append, take_more}
use Rattle.typed_plan.specs.TypedPlans.{has_columns}
use Rattle.batch_skipping.specs.ChosenColumns.{are_within}
use Rattle.row_sources.proofs.Cells.{within_at}
use Rattle.row_sources.proofs.columns.picked.Goals as goal

pub bounds-numbers-place : goal.bounds-numbers-place
bounds-numbers-place c =
    let width = length c.args.numbers.now in
    let items = c.as_slice-place-items.result.now in
    within_at width items c.loop-place.place-index
    (ap (are_within width) c.as_slice-place-items.ensures ∙ sym (ap (has_columns width) c.in-These.is) ∙ c.requires)
    c.loop-place-test.true

-- one number more
one_more : (numbers places before after : List ℕ) (i : ℕ) → i < length places → before ≡ map (slice_index numbers) (take i places) →
    after ≡ before ++ slice_index numbers (get_or places i 0) ∷ [] → after ≡ map (slice_index numbers) (take (i + 1) places)
one_more numbers places before after i h is pushed =
    let place = get_or places i 0 in
    pushed
    ∙ ap (λ (some : List ℕ). some ++ slice_index numbers place ∷ []) is
    ∙ sym (ap (map (slice_index numbers)) (take_more places i 0 h) ∙ map-append (slice_index numbers) (take i places) (place ∷ []))

pub loop-place-preserved : goal.loop-place-preserved
loop-place-preserved c =
    one_more c.args.numbers.now c.as_slice-place-items.result.now c.loop-place.picked.items c.push.new.self.items c.loop-place.place-index
    c.loop-place-test.true c.loop-place.invariant c.in_ok-push-in-These.ensures.items
