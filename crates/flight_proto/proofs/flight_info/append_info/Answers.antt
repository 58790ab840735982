use Rattle.std.proofs.Common.{map, rules}
use Rattle.flight_proto.proofs.Writes.{info_pieces, four_pieces}
use Rattle.flight_proto.proofs.flight_info.append_info.Goals as goal

pub returns-clause-ok : goal.returns-clause-ok
returns-clause-ok c =
    rw (info_pieces c.args.schema.now c.args.descriptor.now (map (λ ticket. ticket.items) c.args.tickets.now)) (search (rules, four_pieces))
