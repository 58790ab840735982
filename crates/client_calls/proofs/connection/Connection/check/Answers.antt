use Rattle.std.proofs.Common.{Option, ap, sym, ◌∙◌}
use Rattle.scan_base.specs.declared.fault.Fault.{Fault}
use Rattle.client_calls.specs.Outcome.{Line, left_of}
use Rattle.client_calls.proofs.connection.Connection.check.Goals as goal

pub returns-in-None : goal.returns-in-None
returns-in-None g c = (c.self.inside.inbox, ap (λ (l : Line). l.incoming.left) (sym c.self.view_is) ∙ ap (λ (s : Option Fault). left_of s c.self.inside.inbox) c.in-None.is)

pub returns-in-Some : goal.returns-in-Some
returns-in-Some g c = (c.self.inside.inbox, ap (λ (l : Line). l.incoming.left) (sym c.self.view_is) ∙ ap (λ (s : Option Fault). left_of s c.self.inside.inbox) c.in-Some.is)
