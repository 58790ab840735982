use Rattle.flight_core.proofs.Fetching.{beyond_before, unknown_above}
use Rattle.flight_core.proofs.steps.version_on.Goals as goal

pub returns-in-Err-VersionUnknown-clause-still : goal.returns-in-Err-VersionUnknown-clause-still
returns-in-Err-VersionUnknown-clause-still g c reached =
    let seen = c.in-Err-VersionUnknown.ensures in
    let log = (g.B.Backend.seat c.at.new.self).log in
    absurd (beyond_before (g.B.Backend.seat c.args.backend.now).log log c.args.number seen.learns.0 (unknown_above _ _ log c.args.number (rw c.in-Err-VersionUnknown.field-0-is at seen.err)) reached)
