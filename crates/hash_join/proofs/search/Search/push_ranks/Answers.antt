use Rattle.hash_join.proofs.Sieving.{ranks_tell}
use Rattle.hash_join.proofs.search.Search.push_ranks.Goals as goal

pub push_numbers-requires-clause-look : goal.push_numbers-requires-clause-look
push_numbers-requires-clause-look c =
    ranks_tell c.args.self.now c.requires.whole c.args.ranks.now c.requires.parted c.requires.own c.as_slice.result.now c.as_slice.ensures.value
