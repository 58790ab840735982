use Rattle.std.proofs.Common.{ap, ◌∙◌}
use Rattle.fetch_stream.specs.Streams.{RunningAt}
use Rattle.fetch_stream.proofs.Going.{readied_stream}
use Rattle.fetch_stream.proofs.Stepping.{keeps_still}
use Rattle.fetch_stream.proofs.stream.FetchStream.readied.Goals as goal

pub invariant_of-result : goal.invariant_of-result
invariant_of-result g c none =
    let s = c.self.inside in
    (keeps_still s.cutter s.source c.in_ok-source.source (c.self.invariant none) c.in_ok-source.ensures.source).keeps.going

pub returns-clause-stream : goal.returns-clause-stream
returns-clause-stream g c =
    let s = c.self.inside in
    let new = c.in_ok-source.source in
    readied_stream s.cutter s.source new s.begun s.refused (keeps_still s.cutter s.source new (c.self.invariant c.in-None.is) c.in_ok-source.ensures.source) ∙ ap (λ (s : RunningAt). s.stream) c.self.view_is
