use Rattle.std.proofs.Common.{arith}
use Rattle.arrays.specs.Batch.{row_of}
use Rattle.hash_join.specs.KeyRows.{key_beside, row_key}
use Rattle.hash_join.proofs.Cells.{same_parts, same_there}
use Rattle.hash_join.proofs.key_row.KeyRow.has_parts_of.Goals as goal

pub loop-part-preserved : goal.loop-part-preserved
loop-part-preserved c =
    let at = c.args.self.now in
    same_there (row_key at) (key_beside at c.args.other) c.loop-part.part c.loop-part.invariant (c.has_part_of.ensures c.if-not-has_part_of.false)

pub returns : goal.returns
returns c =
    let at = c.args.self.now in
    let columns = at.batch.now.columns in
    λ _. same_parts at.key.now (row_of columns at.row) (row_of columns c.args.other)
    (λ i within. c.loop-part.invariant i (omega (arith, within, c.loop-part-test.false)))
