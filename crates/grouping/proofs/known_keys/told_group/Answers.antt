use Rattle.std.proofs.Common.{sym, ◌∙◌, arith}
use Rattle.grouping.proofs.Knowing.{known_hit, known_place}
use Rattle.grouping.proofs.known_keys.told_group.Goals as goal

pub returns-then-is_of : goal.returns-then-is_of
returns-then-is_of g c firsts known =
    let same = sym c.is_of.ensures ∙ c.if-is_of.true in (
      known_hit (g.T.Tags.meaning c.args.tags.now) firsts c.args.first c.args.known.now c.place_of-at.result _ c.tag-tag.result.kind c.tag-tag.result.key _
          known (omega (arith, c.place_of-at.ensures)) c.requires.tagged c.tag-tag.ensures same,
      known_place (g.T.Tags.meaning c.args.tags.now) firsts c.args.first c.args.known.now c.place_of-at.result _ c.tag-tag.result.kind c.tag-tag.result.key _
          known (omega (arith, c.place_of-at.ensures)) c.requires.tagged c.tag-tag.ensures same,
    )
