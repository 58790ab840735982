use Rattle.std.proofs.Common.{◌+◌, arith}
use Rattle.arrays.specs.Batch.{cut_batch}
use Rattle.row_stream.specs.inside.Cuts.{HasBodyWithin, SayBatch}
use Rattle.row_stream.proofs.Cuts.{cut_typed}
use Rattle.row_stream.proofs.Dressed.{say_short}
use Rattle.row_stream.proofs.batch_cuts.next_cut.Goals as goal

pub batch_parcel-requires-clause-typed : goal.batch_parcel-requires-clause-typed
batch_parcel-requires-clause-typed c =
    rw c.in_ok-slice.ensures (cut_typed (c.args.dresser.now).fields c.args.batch.now.columns c.args.at (c.args.at + c.loop-rows.rows) c.requires.typed)

pub returns-in-Some-clause-cut : goal.returns-in-Some-clause-cut
returns-in-Some-clause-cut c =
    let schema = c.args.dresser.now in
    let slice = cut_batch c.args.batch.now c.args.at (c.args.at + c.loop-rows.rows) in
    let says : SayBatch (HasBodyWithin 8388608) schema slice c.in-Some.parcel = rw (c.in-Some.is, c.in_ok-slice.ensures) at c.in_ok-parcel.ensures.says in
    let before = c.loop-rows.invariant in
    record {
      forth = omega (arith, before.some);
      few = omega (arith, before.few);
      within = before.within;
      says = say_short schema slice c.in-Some.parcel says;
    }
