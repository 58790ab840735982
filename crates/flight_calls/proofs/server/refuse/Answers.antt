use Rattle.std.proofs.Common.{Err, ap, inl, inr, refl, rules, ◌∙◌}
use Rattle.std.proofs.lemmas.Result.{err_from_is_err_and}
use Rattle.grpc_frame.proofs.Outgoing.{all_written, begun_written, one_more_is}
use Rattle.flight_calls.proofs.server.refuse.Goals as goal

pub returns-in_err-write_last_status-clause-refuses : goal.returns-in_err-write_last_status-clause-refuses
returns-in_err-write_last_status-clause-refuses g c =
    let p = err_from_is_err_and c.from_residual.result c.from_residual.ensures.1 in
    let failed = c.in_err-write_last_status.ensures.bytes in
    rw (p.1, p.2) (inr (inr (record {
      other = search rules;
      result_is = ap Err failed.0;
      wrote = begun_written _ _ _ c.requires.empty failed.1;
      counted = failed.1.failed.failures ∙ one_more_is _ c.requires.writes;
    })))

pub returns-clause-refuses : goal.returns-clause-refuses
returns-clause-refuses g c =
    let sent = c.in_ok-write_last_status.ensures in
    inr (inl (record {
      other = search rules;
      result_is = refl;
      wrote = all_written _ _ _ c.requires.empty sent.written sent.bytes;
      quiet = sent.bytes.quiet.failures;
    }))
