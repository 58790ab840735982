use Rattle.flight_core.proofs.Saying.{answers_say_one_thing}
use Rattle.flight_core.proofs.laws.answers_say_one_thing.Goals as goal

pub returns : goal.returns
returns c = answers_say_one_thing c.messages_say_one_thing.ensures
