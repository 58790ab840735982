use Rattle.std.proofs.Common.{refl, rules, take_all}
use Rattle.std.proofs.lemmas.Result.{err_from_is_err_and}
use Rattle.row_stream.specs.inside.Frames.{written_frame}
use Rattle.row_stream.proofs.Parts.{none_sent, more_sent, more_not_sent}
use Rattle.row_stream.proofs.sending.send_dictionaries.Goals as goal

pub loop-dictionary-init : goal.loop-dictionary-init
loop-dictionary-init g c = record { sent = none_sent _ _; count = refl }

pub loop-dictionary-preserved : goal.loop-dictionary-preserved
loop-dictionary-preserved g c = record {
  sent = more_sent written_frame _ _ _ _ _ _ c.args.dictionaries.now c.loop-dictionary.dictionary-index c.dictionary-item.result c.loop-dictionary-test.true c.dictionary-item.is c.loop-dictionary.invariant.sent c.in_ok-send_written.ensures.bytes;
  count = search rules;
}

pub returns-in_err-send_written-clause-bytes : goal.returns-in_err-send_written-clause-bytes
returns-in_err-send_written-clause-bytes g c =
    let p = err_from_is_err_and c.from_residual.result c.from_residual.ensures.1 in
    rw p.1 (more_not_sent written_frame _ _ _ _ _ _ c.args.dictionaries.now c.loop-dictionary.dictionary-index c.dictionary-item.result c.loop-dictionary-test.true c.dictionary-item.is c.loop-dictionary.invariant.sent c.in_err-send_written.ensures.bytes)

pub returns-clause-bytes : goal.returns-clause-bytes
returns-clause-bytes g c = rw (take_all c.loop-dictionary.dictionary-index c.args.dictionaries.now (search rules)) at c.loop-dictionary.invariant.sent
