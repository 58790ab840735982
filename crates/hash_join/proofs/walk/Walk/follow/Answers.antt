use Rattle.std.proofs.Common.{◌<◌, ◌++◌, length, arith}
use Rattle.std.proofs.lemmas.List.{get_or_read}
use Rattle.hash_join.specs.Walks.{pairs_past}
use Rattle.hash_join.proofs.Walking.{next_leads, next_follows}
use Rattle.hash_join.proofs.walk.Walk.follow.Goals as goal

pub chain-preserved : goal.chain-preserved
chain-preserved c =
    let walk = c.args.self.now in
    let links = walk.chains.now.links.items in
    let at = c.chain.at in
    let within : at < length walk.rights.now.places.items = omega (arith, c.chain-test.true, c.len.ensures, walk.rights.now.places.ok) in
    let few : length c.chain.made.pairs.items < c.args.most = omega (arith, c.if-len-most.true, c.len-in-chain.ensures, c.chain.made.pairs.ok) in
    let linked : at < length links = omega (arith, within, c.requires.whole.linked.links_count) in
    let next = get_or_read links at c.index.result.now linked c.index.ensures 0 in
    record {
      follows = rw (next, c.in_ok-push_pair.ensures)
          (next_follows walk c.requires.whole at c.args.most c.chain.made.pairs.items (c.args.made.now.pairs.items ++ pairs_past walk c.args.first)
          within few c.chain.invariant.follows);
      compared = c.joins_next-joins.ensures.compared;
      told = c.joins_next-joins.ensures.joins;
    }

pub chain-smaller : goal.chain-smaller
chain-smaller c =
    let walk = c.args.self.now in
    let links = walk.chains.now.links.items in
    let at = c.chain.at in
    let within : at < length walk.rights.now.places.items = omega (arith, c.chain-test.true, c.len.ensures, walk.rights.now.places.ok) in
    let linked : at < length links = omega (arith, within, c.requires.whole.linked.links_count) in
    let next = get_or_read links at c.index.result.now linked c.index.ensures 0 in
    let lead = next_leads walk c.requires.whole at within (c.chain.invariant.follows.there within) in
    omega (arith, next, lead.after, within)
