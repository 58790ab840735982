use Rattle.std.proofs.Common.{rules, ap, sym, refl, [], ◌∙◌, ◌++◌, ◌≡◌, ◌+◌, ◌-◌, take}
use Rattle.std.proofs.lemmas.List.{with_items_is, places, take-append-le}
use Rattle.std.proofs.lemmas.Slice.{overwrites, between_is}
use Rattle.std.proofs.lemmas.Result.{err_from_is_err_and}
use borrow.Rule.Slice.PartMut.{put_mid, post_of}
use Rattle.bytes.proofs.Ranges.{take-append_past}
use Rattle.command_ends.proofs.input_buffer.InputBuffer.read_from.Goals as goal

pub returns-clause-came : goal.returns-clause-came
returns-clause-came g c =
    let b = c.self.inside in
    let n = c.in_ok-count.count in
    let all = c.as_mut_slice.result.now in
    let got = c.read.new.piece in
    let room = c.len.result - b.len in
    let after = put_mid b.len (b.len + room - b.len) all got in
    let front : take (b.len + n) after ≡ take b.len b.memory.items ++ take n got =
    take-append_past _ _ n _ (search (rules, places))
    ∙ (λ i. take b.len (c.as_mut_slice.ensures.value i) ++ take-append-le n got (post_of b.len (b.len + room - b.len) all) c.in_ok-count.ensures.bound.0 i) in (
      take n got,
      c.in_ok-count.ensures.bytes.0,
      (
        ap (take (b.len + n)) (with_items_is b.memory after (search (rules, places))) ∙ front
            ∙ ap (λ f. f.items ++ take n got) c.self.view_is,
        sym c.in_ok-count.ensures.bound.1,
      ),
    )

pub returns-in_err-count-clause-came : goal.returns-in_err-count-clause-came
returns-in_err-count-clause-came g c =
    let b = c.self.inside in
    let all = c.as_mut_slice.result.now in
    let room = c.len.result - b.len in
    let after = put_mid b.len (b.len + room - b.len) all c.read.new.piece in
    let whole = with_items_is b.memory after (search (rules, places)) in
    let items : take b.len after ≡ take b.len b.memory.items = search (rules, between_is, overwrites) in
    let p = err_from_is_err_and c.from_residual.result c.from_residual.ensures.1 in
    ([], c.in_err-count.ensures.bytes, rw (p.1, whole, items) (ap (λ f. f.items) c.self.view_is, refl))
