use Rattle.std.proofs.Common.{rules, arith, ◌≡◌, ◌+◌, ◌-◌, ◌++◌, length, drop, map, ap, ◌∙◌}
use Rattle.std.proofs.lemmas.List.{length-map}
use Rattle.std.specs.Arc.{arc_value}
use Rattle.shared_pages.proofs.Lists.{ok_same}
use Rattle.version_log.specs.Index.{IndexAt}
use Rattle.version_log.proofs.Dropping.{rest_of_second}
use Rattle.version_log.proofs.index.VersionIndex.from_place.Goals as goal

pub returns : goal.returns
returns c =
    let front = map arc_value (arc_value c.self.inside.front).items in
    let place = c.args.place in
    let count : c.len-in_front.result ≡ length front = search (rules, length-map) in
    let at : place ≡ length front + (place - c.len-in_front.result) = omega (arith, count, c.if-place-in_front.false) in
    let rest = rest_of_second place (place - c.len-in_front.result) front c.self.inside.later at in
    let whole = rest ∙ ap (λ (index : IndexAt). drop place index.versions) c.self.view_is in
    ok_same (λ rest. map arc_value rest.0.items ++ rest.1) c.share_from.result _ _ whole c.share_from.ensures
