use Rattle.std.proofs.Common.{sym, ◌∙◌, arith}
use Rattle.grouping.proofs.Knowing.{known_hit, known_inserted}
use Rattle.grouping.proofs.known_keys.known_group.Goals as goal

pub returns-then-is_of-clause-inserted : goal.returns-then-is_of-clause-inserted
returns-then-is_of-clause-inserted g c =
    known_hit (g.T.Tags.meaning c.args.tags.now) c.args.firsts.now.keys c.args.first c.args.known.now c.place_of-at.result _ c.tag-tag.result.kind c.tag-tag.result.key _
    c.requires.known (omega (arith, c.place_of-at.ensures)) c.requires.tagged c.tag-tag.ensures (sym c.is_of.ensures ∙ c.if-is_of.true)

pub returns-clause-known : goal.returns-clause-known
returns-clause-known g c =
    known_inserted (g.T.Tags.meaning c.args.tags.now) c.args.firsts.now.keys _ c.args.first c.args.known.now c.place_of-at.result _ _
    c.requires.known c.in_ok-group.ensures.inserted c.requires.tagged c.tag-tag.ensures c.in_ok-group.ensures.place
