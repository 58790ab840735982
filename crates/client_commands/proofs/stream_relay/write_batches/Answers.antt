use Rattle.std.proofs.Common.{Some, refl, ap, ◌∙◌}
use Rattle.std.proofs.lemmas.Result.{err_from_is_err_and}
use Rattle.client_calls.specs.Taking.{with_batch}
use Rattle.command_ends.specs.Printing.{Said}
use Rattle.client_commands.specs.inside.Writers.{WriterAt}
use Rattle.client_commands.proofs.Rows.{all_passed, batch_passed, batch_stopped, fetch_failed, fits_next, same_passing, typed_by}
use Rattle.client_commands.proofs.stream_relay.write_batches.Goals as goal

pub loop-batch-init : goal.loop-batch-init
loop-batch-init g c = record { fits = c.requires.fits; passes = λ ticket schema own rows start begun stream none passing. (stream, passing); count = refl; calls = (refl, refl) }

pub write_batch-requires-clause-typed : goal.write_batch-requires-clause-typed
write_batch-requires-clause-typed g c =
    let i = c.loop-batch.invariant in
    let has = rw c.in-Some.is at c.in_ok-batch.ensures.columns in
    let still = c.in_ok-batch.ensures.written in
    typed_by c.next_batch.new.fetching.state (g.F.RowWriter.state c.next_batch.new.writer).schema c.in-Some.batch (fits_next _ _ _ _ i.fits c.in_ok-batch.ensures.kept (ap (λ (w : WriterAt). w.schema) still.0)) has

pub loop-batch-preserved : goal.loop-batch-preserved
loop-batch-preserved g c =
    let i = c.loop-batch.invariant in
    let came = rw c.in-Some.is at c.in_ok-batch.ensures.next in
    let still = c.in_ok-batch.ensures.written in
    record {
      passes = λ ticket schema own rows start begun stream none passing.
          let before = i.passes ticket schema own rows start begun stream none passing in
          let passing = same_passing g.F.RowWriter.format ticket schema own rows start begun before.0 _ _ _ before.1 _ _ still.0 still.1 in (
            with_batch before.0 c.next_batch.new.fetching.state (Some c.in-Some.batch),
            batch_passed g.F.RowWriter.format ticket schema own rows start begun before.0 _ _ _ passing c.next_batch.new.fetching.state c.next_batch.new.fetching.line c.in-Some.batch (came ticket before.0 begun before.1.state before.1.fetching) c.in_ok-batch.ensures.kept _ _ (g.F.RowWriter.state c.write_batch.new.self) refl refl c.in_ok-write_batch.ensures.bytes,
          );
      fits = fits_next _ _ _ _ i.fits c.in_ok-batch.ensures.kept (c.in_ok-write_batch.ensures.kept ∙ ap (λ (w : WriterAt). w.schema) still.0);
      count = c.in_ok-write_batch.ensures.counted ∙ ap (λ (s : Said). s.failures) still.1 ∙ i.count;
      calls = (c.in_ok-batch.ensures.quiet.0 ∙ i.calls.0, c.in_ok-batch.ensures.quiet.1 ∙ i.calls.1);
    }

pub returns-in_err-batch-clause-passes : goal.returns-in_err-batch-clause-passes
returns-in_err-batch-clause-passes g c ticket schema own rows start begun stream none passing =
    let i = c.loop-batch.invariant in
    let before = i.passes ticket schema own rows start begun stream none passing in
    let p = err_from_is_err_and c.from_residual.result c.from_residual.ensures.1 in
    rw (p.1, p.2) (fetch_failed g.F.RowWriter.format ticket schema own rows start begun before.0 _ _ _ before.1 _ _ _ _ (g.F.RowWriter.state c.next_batch.new.writer) (c.in_err-batch.ensures.next ticket before.0 begun before.1.state before.1.fetching) i.count c.in_err-batch.ensures.written)

pub returns-in_err-write_batch-clause-passes : goal.returns-in_err-write_batch-clause-passes
returns-in_err-write_batch-clause-passes g c ticket schema own rows start begun stream none passing =
    let i = c.loop-batch.invariant in
    let before = i.passes ticket schema own rows start begun stream none passing in
    let came = rw c.in-Some.is at c.in_ok-batch.ensures.next in
    let still = c.in_ok-batch.ensures.written in
    let passing = same_passing g.F.RowWriter.format ticket schema own rows start begun before.0 _ _ _ before.1 _ _ still.0 still.1 in
    let p = err_from_is_err_and c.from_residual-in_err-write_batch.result c.from_residual-in_err-write_batch.ensures.1 in
    rw (p.1, p.2)
    (batch_stopped g.F.RowWriter.format ticket schema own rows start begun before.0 _ _ _ passing c.next_batch.new.fetching.state c.next_batch.new.fetching.line c.in-Some.batch (came ticket before.0 begun before.1.state before.1.fetching) c.in_ok-batch.ensures.kept _ _ _ _ (g.F.RowWriter.state c.write_batch.new.self) refl (ap (λ (s : Said). s.failures) still.1 ∙ i.count) c.in_err-write_batch.ensures.bytes c.in_err-write_batch.ensures.cause c.in_err-write_batch.ensures.counted)

pub returns-clause-passes : goal.returns-clause-passes
returns-clause-passes g c ticket schema own rows start begun stream none passing =
    let i = c.loop-batch.invariant in
    let before = i.passes ticket schema own rows start begun stream none passing in
    let came = rw c.in_default.is at c.in_ok-batch.ensures.next in
    let still = c.in_ok-batch.ensures.written in
    let passing = same_passing g.F.RowWriter.format ticket schema own rows start begun before.0 _ _ _ before.1 _ _ still.0 still.1 in
    all_passed g.F.RowWriter.format ticket schema own rows start begun before.0 _ _ _ passing _ _ (came ticket before.0 begun before.1.state before.1.fetching) c.in_ok-batch.ensures.kept (ap (λ (s : Said). s.failures) still.1 ∙ i.count)
