use Rattle.std.proofs.Common.{Result, Ok, Err, inl, inr, subst, sym}
use Rattle.flight_info.specs.Payloads.{Payload}
use Rattle.flight_proto.specs.FlightInfo.{endpoint_said}
use Rattle.client_calls.specs.declared.failure.Failure.{Failure}
use Rattle.client_calls.specs.Taking.{BeginsFetch, FetchAt}
use Rattle.command_ends.specs.Network.{Ends}
use Rattle.client_commands.specs.declared.next_run.RefusedHandle.{RefusedHandle}
use Rattle.client_commands.specs.declared.fetch_failure.FetchFailure.{FetchFailure}
use Rattle.client_commands.specs.Lines.{opened_line}
use Rattle.client_commands.specs.ParallelFetch.{GivesAtLast, Giving}
use Rattle.client_commands.specs.inside.Turns.{Ahead, BeginsAtLast, Settles}
use Rattle.client_commands.proofs.next_run.begin_at_last.Goals as goal

module _ {N V : Type 0} (Gives : Giving N) (view : V → FetchAt) (ticket : Payload) (handle : N) where
  -- a connection was given at last
  given_at_last : (ends : Ends) (begun : Result V Failure) (result : Result V FetchFailure) → GivesAtLast Gives handle ends → BeginsFetch view ticket begun (opened_line ends)
      → Settles {N = N} {V = V} (Ok begun) result → BeginsAtLast Gives view ticket handle result
  given_at_last ends (Ok fetching) result given begins is = subst (BeginsAtLast Gives view ticket handle) (sym is) (ends, given, begins)
  given_at_last ends (Err failure) result given begins is = subst (BeginsAtLast Gives view ticket handle) (sym is) (ends, given, begins)

  -- it was given at once
  pub at_once : (begun : Result V Failure) (result : Result V FetchFailure) → Ahead Gives view ticket handle (Ok begun) → Settles {N = N} {V = V} (Ok begun) result → BeginsAtLast Gives view ticket handle result
  at_once begun result made is = given_at_last made.0 begun result (inl made.1) made.2 is

  -- or the handle was asked once more
  pub asked_again : (refused : RefusedHandle N) (again : Result (Result V Failure) (RefusedHandle N)) (result : Result V FetchFailure) → Ahead {V = V} Gives view ticket handle (Err refused)
      → Ahead Gives view ticket refused.handle again → Settles again result → BeginsAtLast Gives view ticket handle result
  asked_again refused (Ok begun) result none made is = given_at_last made.0 begun result (inr (refused.handle, none, made.1)) made.2 is
  asked_again refused (Err twice) result none made is = subst (BeginsAtLast Gives view ticket handle) (sym is) (refused.handle, none, (twice.handle, made))

pub returns-in-Ok-clause-begins : goal.returns-in-Ok-clause-begins
returns-in-Ok-clause-begins g c handle made =
    at_once (λ old ends new. g.C.Connect.connects old c.args.port ends new) (λ (fetching : FetchAt). fetching) (endpoint_said c.args.endpoint.now).ticket handle c.in-Ok.begun _ (rw c.in-Ok.is at made) c.settle.ensures

pub returns-in-Err-clause-begins : goal.returns-in-Err-clause-begins
returns-in-Err-clause-begins g c handle made =
    asked_again (λ old ends new. g.C.Connect.connects old c.args.port ends new) (λ (fetching : FetchAt). fetching) (endpoint_said c.args.endpoint.now).ticket handle c.in-Err.refused c.begin_apart.result _ (rw c.in-Err.is at made) c.begin_apart.ensures c.settle-in-Err.ensures
