use Rattle.flight_calls.proofs.Pieces.{HasSentParts}
use Rattle.flight_calls.proofs.answer.send_payload.Given as goal

abbrev pub invariant-loop-part : goal.invariant-loop-part
invariant-loop-part g l = HasSentParts l.payload l.parts l.part-index l.fn.sender l.sender
