use Rattle.flight_info.proofs.Fitting.{none_fit}
use Rattle.flight_info.proofs.reply.Reply.refusal.Goals as goal

pub returns-clause-fits : goal.returns-clause-fits
returns-clause-fits c = rw c.new.ensures.items none_fit
