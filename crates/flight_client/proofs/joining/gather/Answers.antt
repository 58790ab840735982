use Rattle.std.proofs.Common.{◌≡◌, ◌∷◌, ◌∙◌, List, None, Some, refl, sym, subst, rules}
use Rattle.std.specs.Vec.Iter.{into_iter_items}
use Rattle.flight_client.specs.Stream.{StreamAt}
use Rattle.flight_client.specs.inside.GatheredStreams.{gathered}
use Rattle.flight_client.specs.inside.TypedColumns.{FitRows}
use Rattle.flight_client.proofs.Typed.{fit_head, fit_tail}
use Rattle.flight_client.proofs.joining.gather.Goals as goal

pub with-requires : goal.with-requires
with-requires c =
    let front : into_iter_items c.loop-stream.stream-iterator ≡ c.in-Some.stream ∷ into_iter_items c.next.new.self = search rules in
    fit_head c.loop-stream.rows c.in-Some.stream (into_iter_items c.next.new.self) (subst (FitRows c.loop-stream.rows) front c.loop-stream.invariant.fit)

pub loop-stream-preserved : goal.loop-stream-preserved
loop-stream-preserved c =
    let front : into_iter_items c.loop-stream.stream-iterator ≡ c.in-Some.stream ∷ into_iter_items c.next.new.self = search rules in
    let was = c.loop-stream.invariant in
    let rest = into_iter_items c.next.new.self in
    let table = c.in_ok-with.field-0 in
    let step : gathered c.loop-stream.rows (c.in-Some.stream ∷ rest) ≡ gathered (Some table) rest = rw c.in_ok-with.ensures refl in
    record {
      same = sym step ∙ subst (λ (streams : List StreamAt). gathered c.loop-stream.rows streams ≡ gathered None c.args.streams.items) front was.same;
      fit = fit_tail c.loop-stream.rows c.in-Some.stream rest table c.in_ok-with.ensures (subst (FitRows c.loop-stream.rows) front was.fit);
    }
