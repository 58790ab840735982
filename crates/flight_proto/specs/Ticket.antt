-- What a fetch begins with: arrow.flight.protocol.Ticket, which holds an Any of
-- arrow.flight.protocol.sql.TicketStatementQuery, which holds the handle of a statement.
use Rattle.std.specs.Prelude.{List, ℕ, Result, Ok, Err, codes, bytes_eq}
use Rattle.scan_base.specs.declared.fault.Fault.{Fault}
use Rattle.scan_base.specs.declared.fault.Fault.TheVariants.{BadTicket}
use Rattle.scan_base.specs.Reading.{◌>>=◌, demand, wanted}
use Rattle.flight_proto.specs.WrappedBytes.{wrapped_of, wrapped_bytes}
use Rattle.flight_proto.specs.Any.{AnySaid, any_of, any_bytes, message_name, type_url_of}

-- the full name of what a ticket holds
abbrev pub ticket_query_name : List ℕ
ticket_query_name = codes "arrow.flight.protocol.sql.TicketStatementQuery"

-- the handle in the bytes that a Ticket holds
abbrev pub handle_in : List ℕ → Result (List ℕ) Fault
handle_in ticket = do
  any ← any_of ticket
  name ← wanted (message_name any.type_url) BadTicket
  _ ← demand (bytes_eq name ticket_query_name) BadTicket
  wrapped_of any.value

-- any fault inside a ticket is that the ticket is bad
abbrev pub inside_ticket : {A : Type 0} → Result A Fault → Result A Fault
inside_ticket (Ok x) = Ok x
inside_ticket (Err fault) = Err BadTicket

-- the handle in the message that begins a fetch
abbrev pub statement_handle_of : List ℕ → Result (List ℕ) Fault
statement_handle_of bytes = wrapped_of bytes >>= λ ticket. inside_ticket (handle_in ticket)

-- the Any that a ticket of this handle holds
abbrev pub handle_any : List ℕ → AnySaid
handle_any handle =
    record { type_url = type_url_of ticket_query_name; value = wrapped_bytes handle }

-- the ticket of a handle
abbrev pub statement_ticket_bytes : List ℕ → List ℕ
statement_ticket_bytes handle = wrapped_bytes (any_bytes (handle_any handle))
