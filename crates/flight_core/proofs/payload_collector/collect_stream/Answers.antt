use Rattle.std.proofs.Common.{◌∙◌}
use Rattle.flight_core.proofs.Collecting.{collected_whole, collected_large}
use Rattle.flight_core.proofs.payload_collector.collect_stream.Goals as goal

pub returns-in-Ok-execute-clause-answer : goal.returns-in-Ok-execute-clause-answer
returns-in-Ok-execute-clause-answer g c database handle opens =
    rw c.whole.ensures (collected_whole database handle opens.0 c.execute.new.reader.payloads.items c.in-Ok-execute.field-0 opens.1
    (c.in-Ok-execute.ensures.said opens.0 (c.in-Ok.ensures ∙ opens.2)))

pub returns-in-Err-ResultTooLarge-clause-answer : goal.returns-in-Err-ResultTooLarge-clause-answer
returns-in-Err-ResultTooLarge-clause-answer g c database handle opens =
    collected_large database handle opens.0 c.execute.new.reader.payloads.items c.in-Err-ResultTooLarge.field-0
    c.in-Err-ResultTooLarge.field-0-is opens.1 (c.in-Err-ResultTooLarge.ensures.said opens.0 (c.in-Ok.ensures ∙ opens.2))
