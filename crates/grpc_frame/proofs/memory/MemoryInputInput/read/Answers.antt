use Rattle.std.proofs.Common.{rules, arith, ◌≡◌, ◌++◌, ◌+◌, ◌-◌, Some, length, take, drop, subst, ap, ◌∙◌, length-append, length-drop}
use Rattle.std.proofs.lemmas.List.{take_rest, take_at, drop_all, length-take}
use Rattle.grpc_frame.specs.Ends.{Advances, Tape, tape_of}
use Rattle.grpc_frame.specs.Memory.{Source}
use Rattle.grpc_frame.proofs.Tapes.{given_more}
use Rattle.grpc_frame.proofs.memory.MemoryInputInput.read.Goals as goal

pub returns-clause-bytes : goal.returns-clause-bytes
returns-clause-bytes c =
    let s = c.self.inside in
    let n = c.min-count.result in
    let all = s.bytes.now in
    let copied = c.copy_from_slice.new.self in
    let now : Tape = tape_of (take (s.place + n) all) (Some (drop (s.place + n) all)) in
    let same : copied ≡ take n (drop s.place all) = c.copy_from_slice.ensures.after ∙ ap (take n) (take_rest all s.place) in
    let long : length copied ≡ n = search rules in
    let gave : Advances (tape_of c.args.self.now.given (Some c.args.self.now.bytes)) now (take n (drop s.place all))
    = subst (λ (source : Source). Advances (tape_of source.given (Some source.bytes)) now (take n (drop s.place all))) c.self.view_is (given_more s.place n all) in
    let left : length (take (length all - s.place) (drop s.place all)) ≡ length all - s.place = grind (arith, length-take, length-drop) in
    let whole : length (copied ++ drop n c.args.piece.now) ≡ length c.args.piece.now = grind (arith, length-append, length-drop) in (
      rw (take_at copied (drop n c.args.piece.now) n long, same) gave,
      λ none some. drop_all (s.place + n) all (omega arith),
    )
