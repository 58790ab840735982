use Rattle.std.proofs.Common.{rules, ◌≡◌, ◌+◌, ◌-◌, ◌≤◌, ◌<◌, ◌++◌, length, drop, map, ap, sym, subst, ◌∙◌}
use Rattle.std.specs.Arc.{arc_value}
use Rattle.version_log.specs.Index.{IndexAt}
use Rattle.version_log.proofs.Dropping.{newest_kept}
use Rattle.version_log.proofs.index.VersionIndex.without.Goals as goal

pub invariant_of-result : goal.invariant_of-result
invariant_of-result c =
    let floor = c.self.inside.floor in
    let next = c.args.floor in
    let versions = map arc_value (arc_value c.self.inside.front).items ++ c.self.inside.later in
    let same : c.in_ok-clone.field-0 ≡ c.self.inside.newest = search rules in
    let held : arc_value c.in_ok-map_err.field-0 ≡ c.in_ok-front.front = search rules in
    let low = subst (λ (index : IndexAt). index.floor ≤ next) (sym c.self.view_is) c.requires.kept in
    let within = subst (λ (index : IndexAt). next < index.floor + length index.versions) (sym c.self.view_is) c.requires.newest in
    let seen = ap (λ (index : IndexAt). drop (next - floor) index.versions) (sym c.self.view_is) in
    let rest : map arc_value c.in_ok-front.front.items ++ c.in_ok-front.later ≡ drop (next - floor) versions = c.in_ok-front.ensures ∙ seen in
    rw (same, held, rest) (newest_kept floor next versions c.self.inside.newest low within c.self.invariant)
