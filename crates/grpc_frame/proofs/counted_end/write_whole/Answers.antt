use Rattle.std.proofs.Common.{rules, ◌+◌, Some, take}
use Rattle.std.proofs.KnownBytes.{Appends-kept, Keeps-refl}
use Rattle.grpc_frame.proofs.Growing.{stopped, stopped_more, written_more}
use Rattle.grpc_frame.proofs.counted_end.write_whole.Goals as goal

pub returns-then-turns-eq0-clause-no : goal.returns-then-turns-eq0-clause-no
returns-then-turns-eq0-clause-no g c _ =
    stopped (Some c.args.taken.now.bytes) (Some c.loop-done.taken.bytes) (Some c.loop-done.taken.bytes) c.loop-done.done c.args.piece.now c.loop-done.invariant.noted (Keeps-refl (Some c.loop-done.taken.bytes))

pub returns-then-turns-eq0-clause-held : goal.returns-then-turns-eq0-clause-held
returns-then-turns-eq0-clause-held g c =
    (take c.loop-done.done c.args.piece.now, c.loop-done.invariant.held, c.loop-done.invariant.noted)

pub returns-in-Ok-eq0-clause-no : goal.returns-in-Ok-eq0-clause-no
returns-in-Ok-eq0-clause-no g c _ =
    stopped_more (Some c.args.taken.now.bytes) (Some c.loop-done.taken.bytes) (Some c.write_noted.new.taken.bytes) c.loop-done.done c.in-Ok-eq0.field-0 c.args.piece.now c.loop-done.invariant.within c.loop-done.invariant.noted c.in-Ok-eq0.ensures.noted

pub returns-in-Ok-eq0-clause-held : goal.returns-in-Ok-eq0-clause-held
returns-in-Ok-eq0-clause-held g c = (
  take (c.loop-done.done + c.in-Ok-eq0.field-0) c.args.piece.now,
  written_more _ _ _ c.loop-done.done c.in-Ok-eq0.field-0 c.args.piece.now c.loop-done.invariant.within c.loop-done.invariant.held c.in-Ok-eq0.ensures.held,
  written_more (Some c.args.taken.now.bytes) (Some c.loop-done.taken.bytes) (Some c.write_noted.new.taken.bytes) c.loop-done.done c.in-Ok-eq0.field-0 c.args.piece.now c.loop-done.invariant.within c.loop-done.invariant.noted c.in-Ok-eq0.ensures.noted,
)

pub loop-done-preserved-in-Ok : goal.loop-done-preserved-in-Ok
loop-done-preserved-in-Ok g c = record {
  within = search rules;
  noted = written_more (Some c.args.taken.now.bytes) (Some c.loop-done.taken.bytes) (Some c.write_noted.new.taken.bytes) c.loop-done.done c.in-Ok.count c.args.piece.now c.loop-done.invariant.within c.loop-done.invariant.noted c.in-Ok.ensures.noted;
  held = written_more _ _ _ c.loop-done.done c.in-Ok.count c.args.piece.now c.loop-done.invariant.within c.loop-done.invariant.held c.in-Ok.ensures.held;
}

pub returns-then-ne-clause-no : goal.returns-then-ne-clause-no
returns-then-ne-clause-no g c _ =
    stopped (Some c.args.taken.now.bytes) (Some c.loop-done.taken.bytes) (Some c.write_noted.new.taken.bytes) c.loop-done.done c.args.piece.now c.loop-done.invariant.noted c.in-Err.ensures.noted

pub returns-then-ne-clause-held : goal.returns-then-ne-clause-held
returns-then-ne-clause-held g c = (
  take c.loop-done.done c.args.piece.now,
  Appends-kept _ _ _ _ c.loop-done.invariant.held c.in-Err.ensures.held,
  Appends-kept (Some c.args.taken.now.bytes) (Some c.loop-done.taken.bytes) (Some c.write_noted.new.taken.bytes) _ c.loop-done.invariant.noted c.in-Err.ensures.noted,
)
