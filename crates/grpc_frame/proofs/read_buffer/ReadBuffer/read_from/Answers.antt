use Rattle.std.proofs.Common.{rules, ap, sym, refl, [], ◌∙◌, ◌++◌, ◌≡◌, ◌+◌, ◌-◌, take, slice_range}
use Rattle.std.proofs.lemmas.List.{with_items_is, places, take-append-le}
use Rattle.std.proofs.lemmas.Slice.{overwrites, between_is}
use Rattle.std.proofs.lemmas.Result.{err_from_is_err_and}
use borrow.Rule.Slice.PartMut.{put_mid, post_of}
use Rattle.bytes.proofs.Ranges.{slice_range_grown, take-append_past}
use Rattle.grpc_frame.proofs.read_buffer.ReadBuffer.read_from.Goals as goal

pub returns-clause-came : goal.returns-clause-came
returns-clause-came g c =
    let b = c.self.inside in
    let n = c.in_ok-count.count in
    let all = c.as_mut_slice.result.now in
    let got = c.read.new.piece in
    let room = c.min-room.result in
    let after = put_mid b.end (b.end + room - b.end) all got in
    let front : take (b.end + n) after ≡ take b.end b.memory.items ++ take n got =
    take-append_past _ _ n _ (search (rules, places))
    ∙ (λ i. take b.end (c.as_mut_slice.ensures.value i) ++ take-append-le n got (post_of b.end (b.end + room - b.end) all) c.in_ok-count.ensures.bound.0 i) in (
      take n got,
      c.in_ok-count.ensures.bytes.0,
      (
        slice_range_grown b.memory.items _ (take n got) b.start b.end _ c.self.invariant.0 c.self.invariant.1
            (ap (take (b.end + n)) (with_items_is b.memory after (search (rules, places))) ∙ front)
            ∙ ap (λ f. f.items ++ take n got) c.self.view_is,
        sym c.in_ok-count.ensures.bound.1,
      ),
    )

pub returns-in_err-count-clause-came : goal.returns-in_err-count-clause-came
returns-in_err-count-clause-came g c =
    let b = c.self.inside in
    let all = c.as_mut_slice.result.now in
    let room = c.min-room.result in
    let after = put_mid b.end (b.end + room - b.end) all c.read.new.piece in
    let whole = with_items_is b.memory after (search (rules, places)) in
    let items : slice_range after b.start b.end ≡ slice_range b.memory.items b.start b.end = search (rules, between_is, overwrites) in
    let p = err_from_is_err_and c.from_residual.result c.from_residual.ensures.1 in
    ([], c.in_err-count.ensures.bytes, rw (p.1, whole, items) (ap (λ f. f.items) c.self.view_is, refl))
