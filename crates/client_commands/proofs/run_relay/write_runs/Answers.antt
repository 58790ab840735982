use Rattle.std.proofs.Common.{◌≡◌, ◌<◌, ℕ, ◌+◌, ◌/◌, List, [], ◌∷◌, ◌++◌, map, length, arith, rules, ap, subst, sym, ◌∙◌}
use Rattle.std.specs.Vec.Iter.{into_iter_items}
use Rattle.std.proofs.lemmas.List.{length-map, map-append, nil_from_length}
use Rattle.std.proofs.lemmas.Result.{err_from_is_err_and}
use Rattle.grpc_frame.specs.Ends.{CanFail}
use Rattle.flight_proto.specs.FlightInfo.{endpoint_said}
use Rattle.flight_proto.specs.declared.flight_info.FlightEndpoint.{FlightEndpoint}
use Rattle.command_ends.specs.Printing.{said_of}
use Rattle.client_commands.specs.Streaming.{rows_held}
use Rattle.client_commands.specs.inside.Turns.{IsTurnBy}
use Rattle.client_commands.specs.inside.Runs.{OpenAt}
use Rattle.client_commands.proofs.InTurn.{ended_whole, first_stops, first_turn, last_stops, not_ended, relay_lost, relayed}
use Rattle.client_commands.proofs.run_relay.write_runs.Goals as goal

-- a run that was cut off, as plain data
cut_said : (first : FlightEndpoint) (others behind all : List FlightEndpoint) → (first ∷ others) ++ behind ≡ all → (endpoint_said first ∷ map endpoint_said others) ++ map endpoint_said behind ≡ map endpoint_said all
cut_said first others behind all is = sym (map-append endpoint_said (first ∷ others) behind) ∙ ap (map endpoint_said) is

part_said : (first : FlightEndpoint) (others all : List FlightEndpoint) (many n : ℕ) → many ≡ n → length (first ∷ others) ≡ length all / many → length (endpoint_said first ∷ map endpoint_said others) ≡ length (map endpoint_said all) / n
part_said first others all many n same is =
    length-map (first ∷ others) endpoint_said ∙ (is ∙ (ap (λ (k : ℕ). k / many) (sym (length-map all endpoint_said)) ∙ ap (λ (k : ℕ). length (map endpoint_said all) / k) same))

fewer_said : (n : ℕ) (all : List FlightEndpoint) → n < length all → n < length (map endpoint_said all)
fewer_said n all less = omega (arith, less, length-map all endpoint_said)

pub returns-in_err-passing : goal.returns-in_err-passing
returns-in_err-passing g c =
    let p = err_from_is_err_and c.from_residual.result c.from_residual.ensures.1 in
    let all = c.args.endpoints.now in
    let first = c.cut_run.result.0.now in
    let others = c.cut_run.result.1.now in
    let behind = c.cut_run.result.2.now in
    let many : c.saturating_add.result ≡ length c.args.handles.items + 1 = search rules in
    rw (p.1, p.2)
    (first_stops g.F.RowWriter.format (λ old ends new. g.C.Connect.connects old c.args.writing.port ends new) c.args.connection c.args.handles.items (map endpoint_said all) (said_of g.O.Output c.args.output.now)
    (endpoint_said first) (map endpoint_said others) (map endpoint_said behind) (cut_said first others behind all c.cut_run.ensures.all) (part_said first others all _ _ many c.cut_run.ensures.part) (fewer_said _ all c.requires.fewer)
    _ _ (c.in_err-passing.ensures (map endpoint_said others)))

pub loop-handle-init : goal.loop-handle-init
loop-handle-init g c =
    let all = c.args.endpoints.now in
    let first = c.cut_run.result.0.now in
    let others = c.cut_run.result.1.now in
    let behind = c.cut_run.result.2.now in
    let many : c.saturating_add.result ≡ length c.args.handles.items + 1 = search rules in
    let same : c.args.handles.items ≡ into_iter_items c.into_iter-handle-iterator.result = search rules in
    let begun = said_of g.O.Output c.args.output.now in
    let out = said_of g.O.Output c.begin_first.new.output in
    let turn = first_turn g.F.RowWriter.format (λ old ends new. g.C.Connect.connects old c.args.writing.port ends new) c.args.connection c.args.handles.items (map endpoint_said all) begun
    (endpoint_said first) (map endpoint_said others) (map endpoint_said behind) (cut_said first others behind all c.cut_run.ensures.all) (part_said first others all _ _ many c.cut_run.ensures.part) (fewer_said _ all c.requires.fewer)
    c.in_ok-passing.passing out c.in_ok-passing.ensures in
    record {
      turn = subst (λ left. IsTurnBy (λ old ends new. g.C.Connect.connects old c.args.writing.port ends new) g.F.RowWriter.format c.args.connection c.args.handles.items left (map endpoint_said all) (map endpoint_said others) (map endpoint_said behind) begun c.in_ok-passing.passing out) same turn;
      left = search rules;
    }

pub returns-in_err-passing-2 : goal.returns-in_err-passing-2
returns-in_err-passing-2 g c =
    let p = err_from_is_err_and c.from_residual-in_err-passing-2.result c.from_residual-in_err-passing-2.ensures.1 in
    let i = c.loop-handle.invariant in
    let rest = into_iter_items c.next.new.self in
    let handle = c.in-Some.handle in
    let front : into_iter_items c.loop-handle.handle-iterator ≡ handle ∷ rest = search rules in
    let all = c.args.endpoints.now in
    let others = c.loop-handle.others.now in
    let behind = c.loop-handle.behind.now in
    let next = c.cut_run-in-loop-handle.result.0.now in
    let more = c.cut_run-in-loop-handle.result.1.now in
    let after = c.cut_run-in-loop-handle.result.2.now in
    let begun = said_of g.O.Output c.args.output.now in
    let mid = said_of g.O.Output c.loop-handle.output in
    let many : c.loop-handle.left ≡ length rest + 1 = omega (arith, i.left, ap length front) in
    let it = subst (λ left. IsTurnBy (λ old ends new. g.C.Connect.connects old c.args.writing.port ends new) g.F.RowWriter.format c.args.connection c.args.handles.items left (map endpoint_said all) (map endpoint_said others) (map endpoint_said behind) begun c.loop-handle.passing mid) front i.turn in
    rw (p.1, p.2)
    (relay_lost g.F.RowWriter.format (λ old ends new. g.C.Connect.connects old c.args.writing.port ends new) c.args.connection c.args.handles.items (map endpoint_said all) begun
    handle rest (map endpoint_said others) (map endpoint_said behind) mid c.loop-handle.passing it
    (endpoint_said next) (map endpoint_said more) (map endpoint_said after) (cut_said next more after behind c.cut_run-in-loop-handle.ensures.all) (part_said next more behind _ _ many c.cut_run-in-loop-handle.ensures.part)
    (λ (passing : OpenAt). passing) _ _ (c.in_err-passing-2.ensures it.turn.streams it.turn.endpoint it.turn.line begun it.turn.opened))

pub loop-handle-preserved : goal.loop-handle-preserved
loop-handle-preserved g c =
    let i = c.loop-handle.invariant in
    let rest = into_iter_items c.next.new.self in
    let handle = c.in-Some.handle in
    let front : into_iter_items c.loop-handle.handle-iterator ≡ handle ∷ rest = search rules in
    let all = c.args.endpoints.now in
    let others = c.loop-handle.others.now in
    let behind = c.loop-handle.behind.now in
    let next = c.cut_run-in-loop-handle.result.0.now in
    let more = c.cut_run-in-loop-handle.result.1.now in
    let after = c.cut_run-in-loop-handle.result.2.now in
    let begun = said_of g.O.Output c.args.output.now in
    let mid = said_of g.O.Output c.loop-handle.output in
    let out = said_of g.O.Output c.write_and_begin.new.output in
    let many : c.loop-handle.left ≡ length rest + 1 = omega (arith, i.left, ap length front) in
    let it = subst (λ left. IsTurnBy (λ old ends new. g.C.Connect.connects old c.args.writing.port ends new) g.F.RowWriter.format c.args.connection c.args.handles.items left (map endpoint_said all) (map endpoint_said others) (map endpoint_said behind) begun c.loop-handle.passing mid) front i.turn in
    record {
      turn = relayed g.F.RowWriter.format (λ old ends new. g.C.Connect.connects old c.args.writing.port ends new) c.args.connection c.args.handles.items (map endpoint_said all) begun
          handle rest (map endpoint_said others) (map endpoint_said behind) mid c.loop-handle.passing it
          (endpoint_said next) (map endpoint_said more) (map endpoint_said after) (cut_said next more after behind c.cut_run-in-loop-handle.ensures.all) (part_said next more behind _ _ many c.cut_run-in-loop-handle.ensures.part)
          (λ (passing : OpenAt). passing) out c.in_ok-passing-2.passing (c.in_ok-passing-2.ensures it.turn.streams it.turn.endpoint it.turn.line begun it.turn.opened);
      left = omega (arith, many);
    }

pub returns-in_err-writer : goal.returns-in_err-writer
returns-in_err-writer g c =
    let p = err_from_is_err_and c.from_residual-in_err-writer.result c.from_residual-in_err-writer.ensures.1 in
    let i = c.loop-handle.invariant in
    let left = c.loop-handle.handle-iterator in
    let none : into_iter_items left ≡ [] = nil_from_length (into_iter_items left) (sym left.rest.ok.0 ∙ c.in-None.ensures.steps.0) in
    let all = c.args.endpoints.now in
    let others = c.loop-handle.others.now in
    let behind = c.loop-handle.behind.now in
    let begun = said_of g.O.Output c.args.output.now in
    let mid = said_of g.O.Output c.loop-handle.output in
    let it = subst (λ left. IsTurnBy (λ old ends new. g.C.Connect.connects old c.args.writing.port ends new) g.F.RowWriter.format c.args.connection c.args.handles.items left (map endpoint_said all) (map endpoint_said others) (map endpoint_said behind) begun c.loop-handle.passing mid) none i.turn in
    rw (p.1, p.2)
    (last_stops g.F.RowWriter.format (λ old ends new. g.C.Connect.connects old c.args.writing.port ends new) c.args.connection c.args.handles.items (map endpoint_said all) begun
    (map endpoint_said others) (map endpoint_said behind) mid c.loop-handle.passing it _ _ (c.in_err-writer.ensures.passes it.turn.streams it.turn.endpoint it.turn.line begun it.turn.opened))

pub end-requires : goal.end-requires
end-requires g c =
    let quiet = c.in_ok-writer.ensures.counts ∙ c.loop-handle.invariant.turn.turn.opened.quiet in
    subst CanFail (sym quiet) c.requires.writes

pub returns-in_err-end : goal.returns-in_err-end
returns-in_err-end g c =
    let p = err_from_is_err_and c.from_residual-in_err-end.result c.from_residual-in_err-end.ensures.1 in
    let i = c.loop-handle.invariant in
    let left = c.loop-handle.handle-iterator in
    let none : into_iter_items left ≡ [] = nil_from_length (into_iter_items left) (sym left.rest.ok.0 ∙ c.in-None.ensures.steps.0) in
    let all = c.args.endpoints.now in
    let others = c.loop-handle.others.now in
    let behind = c.loop-handle.behind.now in
    let begun = said_of g.O.Output c.args.output.now in
    let mid = said_of g.O.Output c.loop-handle.output in
    let it = subst (λ left. IsTurnBy (λ old ends new. g.C.Connect.connects old c.args.writing.port ends new) g.F.RowWriter.format c.args.connection c.args.handles.items left (map endpoint_said all) (map endpoint_said others) (map endpoint_said behind) begun c.loop-handle.passing mid) none i.turn in
    let passed = c.in_ok-writer.ensures.passes it.turn.streams it.turn.endpoint it.turn.line begun it.turn.opened in
    let wrote = c.in_err-end.ensures.bytes _ (rows_held (it.turn.streams ++ passed.1.streams)) begun.bytes passed.1.sent.so in
    rw (p.1, p.2)
    (not_ended g.F.RowWriter.format (λ old ends new. g.C.Connect.connects old c.args.writing.port ends new) c.args.connection c.args.handles.items (map endpoint_said all) begun
    (map endpoint_said others) (map endpoint_said behind) mid c.loop-handle.passing it (g.F.RowWriter.state c.in_ok-writer.writer) passed.0 _ _ passed.1 _ wrote c.in_err-end.ensures.cause c.in_err-end.ensures.counted)

pub returns : goal.returns
returns g c =
    let i = c.loop-handle.invariant in
    let left = c.loop-handle.handle-iterator in
    let none : into_iter_items left ≡ [] = nil_from_length (into_iter_items left) (sym left.rest.ok.0 ∙ c.in-None.ensures.steps.0) in
    let all = c.args.endpoints.now in
    let others = c.loop-handle.others.now in
    let behind = c.loop-handle.behind.now in
    let begun = said_of g.O.Output c.args.output.now in
    let mid = said_of g.O.Output c.loop-handle.output in
    let it = subst (λ left. IsTurnBy (λ old ends new. g.C.Connect.connects old c.args.writing.port ends new) g.F.RowWriter.format c.args.connection c.args.handles.items left (map endpoint_said all) (map endpoint_said others) (map endpoint_said behind) begun c.loop-handle.passing mid) none i.turn in
    let passed = c.in_ok-writer.ensures.passes it.turn.streams it.turn.endpoint it.turn.line begun it.turn.opened in
    let wrote = c.in_ok-end.ensures.bytes _ (rows_held (it.turn.streams ++ passed.1.streams)) begun.bytes passed.1.sent.so in
    ended_whole g.F.RowWriter.format (λ old ends new. g.C.Connect.connects old c.args.writing.port ends new) c.args.connection c.args.handles.items (map endpoint_said all) begun
    (map endpoint_said others) (map endpoint_said behind) mid c.loop-handle.passing it (g.F.RowWriter.state c.in_ok-writer.writer) passed.0 _ _ passed.1 wrote c.in_ok-end.ensures.counted
