use Rattle.std.proofs.Common.{◌≡◌, ℕ, [], map, Option, refl, ap, ◌∙◌}
use Rattle.arrays.specs.Batch.{rows_of}
use Rattle.scan_exec.specs.Scan.{left}
use Rattle.table_versions.specs.Table.{Row}
use Rattle.fetch_stream.specs.inside.Opening.{rows_meant}
use Rattle.fetch_stream.proofs.Going.{opens_behind}
use Rattle.fetch_stream.proofs.opening.PlannedScan.stream.Goals as goal

pub returns-clause-stream : goal.returns-clause-stream
returns-clause-stream g c =
    let scan = c.in_ok-scan.scan in
    let begins = c.in_ok-scan.ensures.begins in
    let nothing : rows_of c.new-nothing.result ≡ [] = rw c.new-nothing.ensures refl in
    let rows : left scan ≡ rows_meant c.args.self = ap (map (λ (given : Option ℕ × Row). given.1)) begins.ahead in
    c.of.ensures ∙ opens_behind scan.schema (rows_of c.new-nothing.result) (left scan) (record { schema = c.args.self.plan.schema; rows = rows_meant c.args.self }) begins.schema nothing rows
