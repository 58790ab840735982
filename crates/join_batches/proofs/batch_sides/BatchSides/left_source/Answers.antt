use Rattle.join_batches.proofs.Sources.{left_has}
use Rattle.join_batches.proofs.batch_sides.BatchSides.left_source.Goals as goal

pub returns : goal.returns
returns c =
    rw (c.in_ok-push.ensures.items, c.new-sources.ensures.items)
    (left_has c.args.self.now c.args.number c.index-columns-number.result c.columns.result.now c.requires.sides c.columns.ensures.columns c.columns.ensures.long
    c.requires.number c.index-columns-number.is)
