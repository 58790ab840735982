use Rattle.std.specs.Arc.{arc_value}
use Rattle.table_versions.proofs.Splices.{spliced_of}
use Rattle.table_versions.proofs.handles.spliced.Goals as goal

pub returns : goal.returns
returns g c =
    spliced_of arc_value c.args.handles.now c.in_ok-front.front.items c.push.new.self.items c.in_ok-all.all.items c.args.new
    c.args.place.start c.args.place.end c.in_ok-all.ensures c.in_ok-push.ensures.items c.in_ok-front.ensures
