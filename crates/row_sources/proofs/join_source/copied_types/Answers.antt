use Rattle.std.proofs.Common.{rules, tests}
use Rattle.std.proofs.lemmas.Iterator.{YieldsList-from_slice, YieldsList-from_map, items_from_collect}
use Rattle.std.proofs.lemmas.Iterator.Consumers.{YieldsList-at, YieldsList-from_chain}
use Rattle.arrow_types.specs.Answer.{copied_type}
use Rattle.row_sources.proofs.join_source.copied_types.Goals as goal

pub returns : goal.returns
returns c =
    items_from_collect _ c.collect.ensures.ran (
    YieldsList-from_map _ copied_type (
    YieldsList-at c.map.ensures.source (
    YieldsList-from_chain
    (YieldsList-at c.chain.ensures.first (YieldsList-from_slice c.args.left.now (cc)))
    (YieldsList-at c.chain.ensures.second (YieldsList-from_slice c.args.right.now (cc)))
    c.chain.ensures.first_done
    c.chain.ensures.second_done
    )
    ) c.map.ensures.closure (λ x r q k. search (rules, tests))
    )
