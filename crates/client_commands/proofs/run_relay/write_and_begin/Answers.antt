use Rattle.std.proofs.Common.{◌++◌, inl, inr, refl}
use Rattle.std.proofs.lemmas.Result.{err_from_is_err_and}
use Rattle.client_commands.proofs.run_relay.write_and_begin.Goals as goal

pub returns-in_err-writer : goal.returns-in_err-writer
returns-in_err-writer g c before endpoint line begun opened =
    let p = err_from_is_err_and c.from_residual.result c.from_residual.ensures.1 in
    let stops = rw c.in_err-writer.was at (c.write_beside-begun.ensures.passes before endpoint line begun opened) in
    rw (p.1, p.2) (inl (c.in_err-writer.field-0.0, refl, stops))

pub returns : goal.returns
returns g c before endpoint line begun opened =
    let passed = rw c.in_ok-writer.was at (c.write_beside-begun.ensures.passes before endpoint line begun opened) in
    inr (record {
      streams = passed.1.streams;
      last = passed.0;
      fetched = passed.1.fetched;
      takes = c.begin_next_run.ensures c.args.handle (before ++ passed.1.streams) begun c.write_beside-begun.ensures.ahead passed.1.sent;
    })
