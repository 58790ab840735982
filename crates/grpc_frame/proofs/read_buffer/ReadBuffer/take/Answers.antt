use Rattle.std.proofs.Common.{ap, sym, ◌∙◌, drop, take}
use Rattle.bytes.proofs.Ranges.{drop-take_less}
use Rattle.grpc_frame.proofs.read_buffer.ReadBuffer.take.Goals as goal

pub returns-clause-front : goal.returns-clause-front
returns-clause-front c =
    c.in_ok-content.ensures
    ∙ sym (drop-take_less c.as_slice.result.now c.args.skipped c.args.whole c.requires.0)
    ∙ ap (λ bytes. drop c.args.skipped (take c.args.whole bytes)) c.as_slice.ensures
