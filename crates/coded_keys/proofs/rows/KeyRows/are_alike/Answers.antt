use Rattle.std.proofs.Common.{get_or, arith}
use Rattle.arrays.specs.Batch.{row_of}
use Rattle.coded_keys.specs.Keys.{key_at_place}
use Rattle.coded_keys.proofs.Parts.{same_parts, same_there}
use Rattle.coded_keys.proofs.rows.KeyRows.are_alike.Goals as goal

pub loop-part-preserved : goal.loop-part-preserved
loop-part-preserved c =
    let keys = c.args.self.now in
    same_there (key_at_place keys c.args.place) (key_at_place keys c.args.other) c.loop-part.part c.loop-part.invariant (c.is_alike.ensures c.if-not-is_alike.false)

pub returns : goal.returns
returns c =
    let keys = c.args.self.now in
    let columns = keys.batch.now.columns in
    λ _. same_parts keys.columns.now (row_of columns (get_or keys.rows.now c.args.place 0)) (row_of columns (get_or keys.rows.now c.args.other 0))
    (λ i within. c.loop-part.invariant i (omega (arith, within, c.loop-part-test.false)))
