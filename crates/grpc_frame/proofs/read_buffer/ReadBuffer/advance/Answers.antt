use Rattle.std.proofs.Common.{rules, sym, ap, ◌∙◌, drop}
use Rattle.std.proofs.lemmas.List.{places}
use Rattle.bytes.proofs.Ranges.{drop-slice_range}
use Rattle.grpc_frame.proofs.read_buffer.ReadBuffer.advance.Goals as goal

pub returns-else-self : goal.returns-else-self
returns-else-self c =
    let b = c.self.inside in
    sym (drop-slice_range b.memory.items b.start b.end c.args.count (search (rules, places)))
    ∙ ap (λ f. drop c.args.count f.items) c.self.view_is
