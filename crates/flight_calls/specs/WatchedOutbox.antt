-- Inside: what becomes of a sender while work is watched.
use Rattle.std.specs.Prelude.{◌≡◌, [], Option, Some, None}
use Rattle.std.proofs.Common.{refl, ◌∙◌, subst}
use Rattle.scan_base.specs.declared.fault.Fault.{Fault}
use Rattle.scan_base.specs.declared.fault.Fault.TheVariants.{Transport}
use Rattle.grpc_frame.specs.Outgoing.{IsBroken, IsSent, Outgoing}
use Rattle.grpc_frame.proofs.Outgoing.{broken_then, none_sent, sent_then}

-- What was sent waits or is written; or a write failed. Where one failed before, nothing more is
-- done.
abbrev pub IsWatched : Option Fault → Option Fault → Outgoing → Outgoing → Type 0
IsWatched None None old new = IsSent old new []
IsWatched None (Some fault) old new = (fault ≡ Transport) × IsBroken old new []
IsWatched (Some fault) failed old new = (failed ≡ Some fault) × (new ≡ old)

-- nothing, where nothing was done
pub still_watched : (failed : Option Fault) (a : Outgoing) → IsWatched failed failed a a
still_watched None a = none_sent a
still_watched (Some fault) a = (refl, refl)

-- and what became of it in two stretches
pub watched_again : (one next last : Option Fault) (a b c : Outgoing) → IsWatched one next a b →
    IsWatched next last b c → IsWatched one last a c
watched_again None None None a b c first then = sent_then a b c [] [] first then
watched_again None None (Some fault) a b c first then =
    (then.0, broken_then a b c [] [] first then.1)
watched_again None (Some fault) last a b c first then = rw (then.0, then.1) first
watched_again (Some fault) next last a b c first then =
    let same = subst (λ (failed : Option Fault). IsWatched failed last b c) first.0 then in
    (same.0, same.1 ∙ first.1)
