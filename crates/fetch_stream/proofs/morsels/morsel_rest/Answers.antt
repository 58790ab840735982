use Rattle.std.proofs.Common.{◌≡◌, [], refl, sym, subst, arith}
use Rattle.arrays.specs.Batch.{rows_of}
use Rattle.scan_exec.specs.Scan.{ScanAt}
use Rattle.fetch_stream.specs.declared.source.Source.TheVariants.{Scanned}
use Rattle.fetch_stream.specs.inside.RowsAhead.{IsSource}
use Rattle.fetch_stream.proofs.Falling.{behind_part, is_part}
use Rattle.fetch_stream.proofs.morsels.morsel_rest.Goals as goal

pub morsel-requires-clause-unopened : goal.morsel-requires-clause-unopened
morsel-requires-clause-unopened c = c.requires.falls.1.morsels.unopened

pub morsel-requires-clause-there : goal.morsel-requires-clause-there
morsel-requires-clause-there c = omega (arith, c.requires.falls.2, c.requires.falls.1.morsels.each)

pub of-stream-requires-clause-source : goal.of-stream-requires-clause-source
of-stream-requires-clause-source c =
    subst (λ (s : ScanAt). IsSource (Scanned s)) (sym c.in_ok-morsel.ensures) (is_part c.args.scan.now c.requires.falls.0 c.args.number c.in_ok-morsel.morsel.unseen c.requires.falls.1)

pub returns : goal.returns
returns c =
    let nothing : rows_of c.new-nothing.result ≡ [] = rw c.new-nothing.ensures refl in
    behind_part c.args.scan.now c.args.number (rows_of c.new-nothing.result) c.in_ok-morsel.morsel c.of-stream.result.stream c.behind_schema.result.stream nothing c.in_ok-morsel.ensures c.of-stream.ensures c.behind_schema.ensures
