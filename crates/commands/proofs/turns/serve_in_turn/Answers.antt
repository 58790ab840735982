use Rattle.std.proofs.Common.{◌∙◌, ap, refl, sym}
use Rattle.std.proofs.lemmas.Result.{err_from_is_err_and}
use Rattle.connection_turns.specs.Drawers.{DrawerAt}
use Rattle.commands.specs.Serve.{AcceptsThenCloses}
use Rattle.commands.proofs.Serving.{all_served, as_shown, next_served, no_more, none_served, one_more, same_seat, served_to, shown_first, shown_so}
use Rattle.commands.proofs.turns.serve_in_turn.Goals as goal

pub loop-init : goal.loop-init
loop-init g c = record {
  next = tt;
  finite = tt;
  name = ap (λ (d : DrawerAt). d.name) c.requires.drawer;
  parts = ap (λ (d : DrawerAt). d.parts) c.requires.drawer;
  served = rw c.requires.drawer (none_served (AcceptsThenCloses g.L.Listen.accepts g.L.Listen.closes) g.B.Backend.moves c.args.service.now.options _);
  free = c.requires.at_rest;
  port = refl;
  shown = c.shown_of-shown.ensures.shown;
  rests = shown_first (g.L.Listen.rests c.args.network.now) g.B.Backend.moves _ _ _ _ _ c.requires.rests c.shown_of-shown.ensures.asks.0 c.shown_of-shown.ensures.shown;
  due = c.requires.due;
  cell = c.requires.cell;
}

pub returns-then-not-draw-clause-serves : goal.returns-then-not-draw-clause-serves
returns-then-not-draw-clause-serves g c =
    all_served (AcceptsThenCloses g.L.Listen.accepts g.L.Listen.closes) g.B.Backend.moves c.args.service.now.options c.loop.drawer.drawn c.draw.new.mine.drawn _ _ _ _
    c.if-not-draw.ensures.turn.0 c.shown_of-shown.ensures.asks c.loop.invariant.served

pub returns-in_err-reader-clause-serves : goal.returns-in_err-reader-clause-serves
returns-in_err-reader-clause-serves g c =
    let p = err_from_is_err_and c.from_residual.result c.from_residual.ensures.1 in
    rw (p.1, p.2)
    (no_more g.L.Listen.accepts g.L.Listen.closes g.B.Backend.moves c.args.service.now.options c.loop.drawer.drawn c.draw.new.mine.drawn _ _ _ _ _ _ _
    c.if-not-draw.ensures.turn.0 c.shown_of-shown.ensures.asks c.loop.invariant.served
    c.in_err-reader.ensures.none c.in_err-reader.ensures.kind)

pub accept_next-requires-clause-announced : goal.accept_next-requires-clause-announced
accept_next-requires-clause-announced g c = c.requires.announced ∙ sym c.loop.invariant.port

pub accept_next-requires-clause-cell : goal.accept_next-requires-clause-cell
accept_next-requires-clause-cell g c = c.loop.invariant.cell c.loop.shown c.loop.invariant.shown.0

pub done-requires-clause-cell : goal.done-requires-clause-cell
done-requires-clause-cell g c = c.in_ok-reader.ensures.cell _ (c.loop.invariant.cell _ c.shown_of-shown-in-loop.ensures.shown.0)

pub done-requires-clause-served : goal.done-requires-clause-served
done-requires-clause-served g c =
    let was = c.loop.invariant.shown in
    let is = c.shown_of-shown-in-loop.ensures.shown in
    let before = g.B.Backend.seat c.loop.backend in
    let behind = g.B.Backend.seat c.shown_of-shown-in-loop.new.backend in
    let taken = c.in_ok-reader.ensures in
    let next = next_served g.B.Backend.moves c.args.service.now.options before _ behind _ _ _ _ _ _ taken.reads taken.writes
    (c.learn.ensures.learns, c.learn.ensures.asks, c.learn.ensures.looks) c.serve.ensures c.shown_of-shown-in-loop.ensures.asks in (
      c.loop.shown,
      _,
      taken.rests,
      taken.holds,
      c.requires.owed _ _ _ _
          (served_to g.B.Backend.moves c.args.service.now.options c.loop.shown c.shown_of-shown-in-loop.result before behind _ _ _ _ next refl
          (as_shown _ _ _ before was) (as_shown _ _ _ behind is) (same_seat _ _ _ _ before behind was is)),
    )

pub loop-preserved : goal.loop-preserved
loop-preserved g c =
    let taken = c.in_ok-reader.ensures in
    let next = next_served g.B.Backend.moves c.args.service.now.options _ _ _ _ _ _ _ _ _ taken.reads taken.writes
    (c.learn.ensures.learns, c.learn.ensures.asks, c.learn.ensures.looks) c.serve.ensures c.shown_of-shown-in-loop.ensures.asks in
    record {
      next = tt;
      finite = tt;
      name = c.draw.ensures.same.0 ∙ c.loop.invariant.name;
      parts = c.draw.ensures.same.1 ∙ c.loop.invariant.parts;
      served = rw c.if-not-draw.ensures.turn.0
          (one_more g.L.Listen.accepts g.L.Listen.closes g.B.Backend.moves c.args.service.now.options c.loop.drawer.drawn _ _ _ _ _ _ _ _ _
          c.loop.invariant.served taken.taken c.done.ensures.closed next);
      free = c.done.ensures.at_rest;
      port = c.done.ensures.port ∙ (taken.port ∙ c.loop.invariant.port);
      shown = c.shown_of-shown-in-loop.ensures.shown;
      rests = shown_so (g.L.Listen.rests c.done.new.self) _ c.done.ensures.rests;
      due = c.done.ensures.due _ _ (taken.due _ _ c.loop.invariant.due);
      cell = λ seat same. c.done.ensures.cell seat (taken.cell seat (c.loop.invariant.cell seat same));
    }
