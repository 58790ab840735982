use Rattle.scan_exec.proofs.Grouping.{are_made}
use Rattle.scan_exec.proofs.grouped_rows.made.Goals as goal

pub returns-clause-made : goal.returns-clause-made
returns-clause-made g c =
    are_made c.args.wanted.now c.args.rows.now c.collect_watched.new.rows (record { batches = c.in_ok-batches.batches; answers = c.in_ok-answers.answers })
    c.in_ok-batches.ensures.collected (rw c.as_slice.ensures.value at c.in_ok-answers.ensures.answers)
