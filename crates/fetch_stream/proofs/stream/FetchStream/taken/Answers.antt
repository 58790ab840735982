use Rattle.std.proofs.Common.{◌≡◌, length, ap, sym, length-append, arith}
use Rattle.fetch_stream.specs.Streams.{RunningAt}
use Rattle.fetch_stream.specs.inside.RowsAhead.{left_behind, rows_cut, rows_taken, uncut}
use Rattle.fetch_stream.proofs.Parts.{length_cut}
use Rattle.fetch_stream.proofs.stream.FetchStream.taken.Goals as goal

pub returns-clause-given : goal.returns-clause-given
returns-clause-given c =
    let cutter = c.self.inside.cutter in
    let source = c.self.inside.source in
    let taken : c.taken.result ≡ rows_taken cutter.batch source = c.taken.ensures cutter.batch (sym c.rows.ensures) in
    let given : rows_cut cutter source ≡ c.args.self.now.stream.given = ap (λ (s : RunningAt). s.stream.given) c.self.view_is in
    omega (arith, taken, given)

pub returns-clause-there : goal.returns-clause-there
returns-clause-there c =
    let cutter = c.self.inside.cutter in
    let source = c.self.inside.source in
    let taken : c.taken.result ≡ rows_taken cutter.batch source = c.taken.ensures cutter.batch (sym c.rows.ensures) in
    let given : rows_cut cutter source ≡ c.args.self.now.stream.given = ap (λ (s : RunningAt). s.stream.given) c.self.view_is in
    let left = ap (λ (s : RunningAt). length s.stream.left) c.self.view_is in
    omega (arith, taken, given, left, length-append (uncut cutter) (left_behind source), length_cut cutter.batch cutter.at cutter.batch.rows)
