use Rattle.std.proofs.Common.{rules, ◌≡◌, ◌+◌, ◌≤◌, ◌∷◌, ◌++◌, [], length, map, sym, subst, append_assoc}
use Rattle.std.specs.Arc.{arc_value}
use Rattle.scan_base.specs.Limits.{most_commits}
use Rattle.version_log.specs.Index.{IndexAt}
use Rattle.version_log.proofs.Dropping.{newest_added}
use Rattle.version_log.proofs.index.VersionIndex.with.Goals as goal

pub invariant_of-result : goal.invariant_of-result
invariant_of-result c =
    let front = map arc_value (arc_value c.self.inside.front).items in
    let later = c.self.inside.later in
    let next = c.new-newest.result in
    let catalog : next.catalog ≡ arc_value c.in_ok-handle.handle = search rules in
    let number : next.number ≡ c.self.inside.newest.number + 1 = search rules in
    let same : map arc_value (arc_value c.in_ok-try_clone-2.field-0).items ≡ front = search rules in
    let added : c.in_ok-with.field-0 ≡ later ++ arc_value c.in_ok-handle.handle ∷ [] = search (rules, c.in_ok-with.ensures, c.in_ok-share.ensures) in
    let room = subst (λ (index : IndexAt). length index.versions ≤ most_commits) (sym c.self.view_is) c.requires.room in
    let is = newest_added c.self.inside.floor (front ++ later) c.self.inside.newest next room number c.self.invariant in
    rw (same, added, ← catalog, ← append_assoc front later (next.catalog ∷ [])) is
