use Rattle.std.proofs.Common.{◌≡◌, ap, sym, arith}
use Rattle.fetch_stream.specs.Streams.{RunningAt}
use Rattle.fetch_stream.specs.inside.RowsAhead.{rows_cut, rows_taken}
use Rattle.fetch_stream.proofs.stream.FetchStream.given.Goals as goal

pub returns : goal.returns
returns c =
    let cutter = c.self.inside.cutter in
    let source = c.self.inside.source in
    let taken : c.taken.result ≡ rows_taken cutter.batch source = c.taken.ensures cutter.batch (sym c.rows-rows.ensures) in
    let given : rows_cut cutter source ≡ c.args.self.now.stream.given = ap (λ (s : RunningAt). s.stream.given) c.self.view_is in
    omega (arith, taken, given)
