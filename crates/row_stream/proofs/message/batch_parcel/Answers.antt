use Rattle.std.proofs.Common.{IfOk, IfSome, sym, subst, arith}
use Rattle.arrow_types.specs.declared.schema.Schema.{Schema}
use Rattle.arrays.specs.TypedLayouts.{AreOfTypes}
use Rattle.dictionary_answers.specs.Dress.{IsDressedBatch}
use Rattle.row_stream.specs.inside.Cuts.{HasBodyWithin, SayBatch}
use Rattle.row_stream.proofs.Dressed.{found_dressed}
use Rattle.row_stream.proofs.Numbers.{few_columns, typed_dressable}
use Rattle.row_stream.proofs.message.batch_parcel.Goals as goal

pub dress-requires-clause-dressable : goal.dress-requires-clause-dressable
dress-requires-clause-dressable c =
    let columns = c.args.batch.now.columns in
    let typed : AreOfTypes c.dresser.inside.schema.fields columns = subst (λ (schema : Schema). AreOfTypes schema.fields columns) (sym c.dresser.view_is) c.requires.typed in
    typed_dressable c.dresser.inside.schema.fields columns typed

pub dressed_parcel-requires-clause-few : goal.dressed_parcel-requires-clause-few
dressed_parcel-requires-clause-few c =
    let schema = c.dresser.inside.schema in
    let columns = c.args.batch.now.columns in
    let typed : AreOfTypes schema.fields columns = subst (λ (schema : Schema). AreOfTypes schema.fields columns) (sym c.dresser.view_is) c.requires.typed in
    let is : IsDressedBatch schema c.args.batch.now c.in-Some.dressed = rw c.in-Some.is at c.in_ok-dressed.ensures.dressed in
    omega (arith, is.many, few_columns schema columns c.dresser.invariant.0 typed)

pub returns-in-Some-clause-says : goal.returns-in-Some-clause-says
returns-in-Some-clause-says c =
    let schema = c.dresser.inside.schema in
    let is : IsDressedBatch schema c.args.batch.now c.in-Some.dressed = rw c.in-Some.is at c.in_ok-dressed.ensures.dressed in
    let says = found_dressed c.dressed_parcel.result schema c.args.batch.now c.in-Some.dressed c.args.room c.requires.room is c.dressed_parcel.ensures.behind in
    subst (λ (schema : Schema). IfOk c.dressed_parcel.result (λ found. IfSome found (SayBatch (HasBodyWithin c.args.room) schema c.args.batch.now))) c.dresser.view_is says
