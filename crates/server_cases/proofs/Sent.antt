-- What the listeners of a server keep may cross threads: each of its parts may. A type that holds a
-- recursive one has a lemma here; the others have one that is generated.
use denote.Param.Send.{IsSend, sendable}
use denote.RattleType.{RattleType}
use Rattle.std.proofs.Crossing.{crosses}
use Rattle.version_cell.specs.contracts.seat_rest.Rest as rest
use Rattle.version_cell.proofs.book.History.TheSendSync as book
use Rattle.version_cell.proofs.times.Times.TheLaws.TheKnot as times
use Rattle.commands.specs.contracts.shown_seat.ShownSeat as shown
use Rattle.server_cases.specs.contracts.history.History as history
use Rattle.server_cases.specs.contracts.history.Seats as seats
use Rattle.server_cases.specs.contracts.recording_listener.ListenerRecord as kept
use Rattle.server_cases.specs.declared.history.BookName as book_name
use Rattle.server_cases.proofs.history.Seats.TheLaws.TheKnot as knot

rest_send : IsSend (rest.the_field).row
rest_send = let b = book.the_field_send in let t = times.send-Times (search (sendable, crosses) depth 20) in
    search (sendable, crosses) depth 20

pub shown_send : IsSend (shown.the_field).row
shown_send = let r = rest_send in search (sendable, crosses) depth 20

seats_send : IsSend seats.the_row
seats_send = let s = shown_send in
    knot.send-Seats (search (sendable, crosses) depth 20) (search (sendable, crosses) depth 20)

history_send : (C : RattleType) (g : book_name.Ghosts C.Denot) → IsSend C → IsSend (history.the_field C g).row
history_send C g send = let s = shown_send in let t = seats_send in search (sendable, crosses) depth 20

pub kept_send : (C : RattleType) (g : book_name.Ghosts C.Denot) → IsSend C → IsSend (kept.the_field C g).row
kept_send C g send = let h = history_send C g send in search (sendable, crosses) depth 20
