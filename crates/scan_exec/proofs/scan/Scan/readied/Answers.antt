use Rattle.std.proofs.Common.{refl}
use Rattle.std.specs.Arc.{arc_value}
use Rattle.scan_exec.specs.Answering.{giving_at}
use Rattle.scan_exec.proofs.Scanning.{readied, ready_on, still_scan}
use Rattle.scan_exec.proofs.scan.Scan.readied.Goals as goal

pub invariant_of-scan : goal.invariant_of-scan
invariant_of-scan g c =
    let s = c.scan.inside in
    let on = ready_on (giving_at s.answer) (giving_at c.make_groups.new.self) c.make_groups.result c.make_groups.ensures.makes in
    (c.make_groups.ensures.giving, still_scan (arc_value s.schema) s.batches.items s.further (giving_at s.answer) (giving_at c.make_groups.new.self) s.given s.given c.scan.invariant.1 on c.scan.invariant.1.few)

pub invariant_of-scan-2 : goal.invariant_of-scan-2
invariant_of-scan-2 g c =
    let s = c.scan.inside in
    let on = ready_on (giving_at s.answer) (giving_at c.make_groups.new.self) c.make_groups.result c.make_groups.ensures.makes in
    (c.make_groups.ensures.giving, still_scan (arc_value s.schema) s.batches.items s.further (giving_at s.answer) (giving_at c.make_groups.new.self) s.given s.given c.scan.invariant.1 on c.scan.invariant.1.few)

pub returns-clause-readied : goal.returns-clause-readied
returns-clause-readied g c =
    let s = c.scan.inside in
    readied (arc_value s.schema) s.batches.items s.further (giving_at s.answer) (giving_at c.make_groups.new.self) s.given s.given c.scan.invariant.1
    c.args.self s.refused c.scan.view_is c.in_ok-make_groups.ensures.makes refl
