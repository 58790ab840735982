use Rattle.std.proofs.Common.{rules, ap, sym, ◌∙◌, ◌≡◌, ◌+◌, take, drop, arith}
use Rattle.std.proofs.lemmas.List.{drop-drop}
use Rattle.std.proofs.lemmas.Slice.{between_is}
use Rattle.bytes.proofs.Ranges.{slice_range_front}
use Rattle.grpc_frame.proofs.read_buffer.ReadBuffer.take_all.Goals as goal

pub returns-in-Ok-clause-front : goal.returns-in-Ok-clause-front
returns-in-Ok-clause-front c =
    let b = c.self.inside in
    let cut : c.in-Ok.content ≡ take b.end b.memory.items = search rules in
    c.advance.ensures
    ∙ (λ i. drop (b.start + c.args.skipped) (cut i))
    ∙ sym (ap (drop c.args.skipped) (between_is b.memory.items b.start b.end) ∙ drop-drop c.args.skipped b.start (take b.end b.memory.items))
    ∙ ap (λ f. drop c.args.skipped f.items) c.self.view_is

pub returns-in-Err-clause-err : goal.returns-in-Err-clause-err
returns-in-Err-clause-err c =
    let b = c.self.inside in
    let cut : take b.end b.memory.items ≡ c.in-Err.failed.value.items = search rules in
    slice_range_front _ b.memory.items b.start b.end b.end cut (omega arith)
    ∙ ap (λ f. f.items) c.self.view_is
