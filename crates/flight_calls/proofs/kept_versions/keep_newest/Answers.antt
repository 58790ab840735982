use Rattle.flight_calls.proofs.Keeping.{older_expire}
use Rattle.flight_calls.proofs.kept_versions.keep_newest.Goals as goal

pub returns : goal.returns
returns g c =
    older_expire g.B.Backend.moves c.args.keep c.args.newest _ _ c.expire.result c.if-keep-eq0.false c.if-newest-keep.false c.ranges.newest.fits c.expire.ensures
