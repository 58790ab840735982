use Rattle.std.proofs.Common.{rules, ap, ◌∙◌, ◌++◌}
use Rattle.std.proofs.lemmas.List.{with_items_is}
use Rattle.std.proofs.lemmas.Slice.{overwrites}
use Rattle.bytes.proofs.Ranges.{slice_range_grown}
use Rattle.grpc_frame.proofs.read_buffer.ReadBuffer.append.Goals as goal

pub returns : goal.returns
returns c =
    let b = c.self.inside in
    slice_range_grown b.memory.items _ c.args.piece.now b.start b.end _ c.self.invariant.0 c.self.invariant.1
    (search (rules, overwrites, with_items_is))
    ∙ ap (λ f. f.items ++ c.args.piece.now) c.self.view_is
