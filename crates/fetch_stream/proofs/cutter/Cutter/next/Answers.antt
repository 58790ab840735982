use Rattle.std.proofs.Common.{◌<◌, ◌+◌, length, sym, ap, subst, ◌∙◌, arith}
use Rattle.std.proofs.lemmas.List.{length-map}
use Rattle.arrays.specs.Batch.{BatchAt, cut_batch}
use Rattle.arrays.specs.Column.{ColumnAt, cut}
use Rattle.dictionary_answers.specs.Lengths.{dressed_length}
use Rattle.fetch_stream.specs.Streams.{most_body_bytes}
use Rattle.fetch_stream.specs.declared.cutter.Cutter.{Cutter}
use Rattle.fetch_stream.specs.inside.RowsAhead.{AnsweredAs}
use Rattle.fetch_stream.proofs.Stepping.{one_fits, more_than_one, half_reaches}
use Rattle.fetch_stream.proofs.Streaming.{cut_answered}
use Rattle.fetch_stream.proofs.cutter.Cutter.next.Goals as goal

pub batch_parcel-requires-clause-few : goal.batch_parcel-requires-clause-few
batch_parcel-requires-clause-few c =
    let self = c.loop-slice.self in
    let end = self.at + c.loop-slice.rows in
    let cuts = ap (λ (b : BatchAt). length b.columns) c.in_ok-slice.ensures ∙ length-map self.batch.columns (λ (column : ColumnAt). cut column self.at end) in
    let wide = ap (λ (s : Cutter). length s.batch.columns) c.loop-slice.invariant.same in
    omega (arith, cuts, wide, c.requires.few)

pub batch_parcel-requires-clause-rows : goal.batch_parcel-requires-clause-rows
batch_parcel-requires-clause-rows c =
    let rows = ap (λ (b : BatchAt). b.rows) c.in_ok-slice.ensures in
    omega (arith, rows, c.loop-slice.invariant.few, c.requires.placed.few)

pub batch_parcel-requires-clause-answered : goal.batch_parcel-requires-clause-answered
batch_parcel-requires-clause-answered c =
    let self = c.loop-slice.self in
    let schema = c.args.schema.now in
    let whole : AnsweredAs schema self.batch.columns = subst (λ (s : Cutter). AnsweredAs schema s.batch.columns) (sym c.loop-slice.invariant.same) c.requires.answered in
    subst (λ (b : BatchAt). AnsweredAs schema b.columns) (sym c.in_ok-slice.ensures) (cut_answered schema self.batch.columns self.at (self.at + c.loop-slice.rows) whole)

pub loop-slice-preserved : goal.loop-slice-preserved
loop-slice-preserved c =
    let before = c.loop-slice.invariant in
    let self = c.loop-slice.self in
    let schema = c.args.schema.now in
    let over : most_body_bytes < dressed_length schema.fields (cut_batch self.batch self.at (self.at + c.loop-slice.rows)).columns =
    subst (λ (b : BatchAt). most_body_bytes < dressed_length schema.fields b.columns) c.in_ok-slice.ensures (c.in_ok-parcel.ensures.long c.in_default.is) in
    let fits = one_fits c.batch_slices_keep_rows.ensures schema self c.args.self.now before.same c.requires.placed c.requires.few c.loop-slice.rows before.within in
    record {
      some = more_than_one c.loop-slice.rows before.some (λ one. omega (arith, over, fits one));
      few = omega (arith, before.few);
      within = omega (arith, before.within);
      far = half_reaches schema self c.args.self.now before.same c.loop-slice.rows before.some before.within over;
      same = before.same;
    }
