use Rattle.std.proofs.Common.{◌+◌, ℕ, List, ◌++◌, map, drop, ap, sym, ◌∙◌}
use Rattle.batch_skipping.specs.declared.opened_batches.OpenedList.{OpenedList}
use Rattle.batch_skipping.specs.OpenedBatches.{numbered_batches}
use Rattle.scan_exec.proofs.OpenedLists.{numbers_of, place_more, places_all}
use Rattle.scan_exec.proofs.opened_batches.further_batches.Goals as goal

pub loop-place-preserved : goal.loop-place-preserved
loop-place-preserved c =
    let lists = c.args.lists.now in
    let place = c.loop-place.place in
    let list = c.index-lists-place.result in
    let done = c.loop-place.batches.items in
    let pushed = c.in_ok-push_numbers.ensures ∙ ap (λ (numbers : List ℕ). done ++ map (λ number. (place, number)) numbers) (c.as_slice.ensures.value ∙ ap (λ (l : OpenedList). l.numbers.items) (sym c.index-lists-place.is)) in
    ap (λ (some : List (ℕ × ℕ)). some ++ numbered_batches (place + 1) (drop (place + 1) (numbers_of lists))) pushed
    ∙ place_more lists place list done _ c.loop-place-test.true c.index-lists-place.is c.loop-place.invariant

pub returns : goal.returns
returns c = places_all c.args.lists.now c.loop-place.place c.loop-place.batches.items _ c.loop-place-test.false c.loop-place.invariant
