use Rattle.std.proofs.Common.{◌≡◌, [], ◌∷◌, rules}
use Rattle.flight_core.specs.Versions.{numbered}
use Rattle.flight_core.proofs.Versions.{first_kept}
use Rattle.flight_core.proofs.plain.Plain.new.Goals as goal

pub invariant_of-result : goal.invariant_of-result
invariant_of-result c =
    let first : numbered c.new-2.result ≡ (0, []) = search rules in
    let kept : c.push.new.self.items ≡ c.new-2.result ∷ [] = rw c.new-kept.ensures.items at c.in_ok-push.ensures.items in
    rw (c.none.ensures, kept, first) first_kept
