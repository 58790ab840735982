use Rattle.hash_join.proofs.walk.Walk.push_from.Goals as goal

pub take_chain-requires-clause-all : goal.take_chain-requires-clause-all
take_chain-requires-clause-all c = c.requires.all c.if-own.true
