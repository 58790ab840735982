use Rattle.std.proofs.Common.{◌∷◌, [], length, ap, ◌∙◌, arith}
use Rattle.std.specs.List.{flat_map}
use Rattle.std.proofs.lemmas.List.{length-append}
use Rattle.arrays.specs.Batch.{rows_of}
use Rattle.row_text.proofs.Widest.{width_more}
use Rattle.row_text.proofs.widths.widths_of.Goals as goal

pub loop-number-preserved : goal.loop-number-preserved
loop-number-preserved c =
    let made = c.loop-number.widths.items in
    let width = c.column_width.result in
    let long = ap length c.push.ensures.items ∙ length-append made (width ∷ []) in
    record {
      all = width_more c.args.fields.now c.loop-number.number c.index-fields-number.result (flat_map rows_of c.args.batches.now) made c.push.new.self.items _ width
          c.loop-number-test.true c.index-fields-number.is c.push.ensures.items c.column_width.ensures c.loop-number.invariant.all;
      count = omega (arith, long, c.loop-number.invariant.count);
    }
