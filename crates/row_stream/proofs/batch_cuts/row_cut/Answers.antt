use Rattle.std.proofs.Common.{◌≡◌, ◌+◌, arith}
use Rattle.arrays.specs.Batch.{cut_batch}
use Rattle.row_stream.specs.inside.Cuts.{HasBodyWithin, SayBatch}
use Rattle.row_stream.proofs.Cuts.{cut_typed}
use Rattle.row_stream.proofs.Dressed.{say_row}
use Rattle.row_stream.proofs.batch_cuts.row_cut.Goals as goal

pub batch_parcel-requires-clause-typed : goal.batch_parcel-requires-clause-typed
batch_parcel-requires-clause-typed c =
    rw c.in_ok-slice.ensures (cut_typed (c.args.dresser.now).fields c.args.batch.now.columns c.args.at (c.args.at + 1) c.requires.typed)

pub returns-in-Some-clause-cut : goal.returns-in-Some-clause-cut
returns-in-Some-clause-cut c =
    let schema = c.args.dresser.now in
    let slice = cut_batch c.args.batch.now c.args.at (c.args.at + 1) in
    let says : SayBatch (HasBodyWithin 2147483647) schema slice c.in-Some.parcel = rw (c.in-Some.is, c.in_ok-slice.ensures) at c.in_ok-parcel.ensures.says in
    let one : slice.rows ≡ 1 = omega arith in
    record {
      forth = omega arith;
      few = omega arith;
      within = omega (arith, c.requires.more);
      says = say_row schema slice 2147483647 c.in-Some.parcel one says;
    }
