use Rattle.fetch_stream.proofs.MadeAhead.{gives_behind}
use Rattle.fetch_stream.proofs.morsel_parcels.turn_of_made.Goals as goal

pub returns-in-Some-rest : goal.returns-in-Some-rest
returns-in-Some-rest c = λ schema rows given.
    gives_behind c.args.patience schema rows given c.args.made.now.items c.pop_front.new.self.items c.args.rest.now c.in-Some-rest.stream c.make_next.new.stream c.make_next.result
    c.in_default.ensures.items c.in_default.ensures.rest c.in-Some-rest.is c.make_next.ensures
