use Rattle.table_versions.specs.StoredTables.{tables_of}
use Rattle.endpoint_split.specs.HandleView.{handle_seen}
use Rattle.flight_core.proofs.payload_collector.answer_fetch.Goals as goal

pub returns-in-Ok-clause-answer : goal.returns-in-Ok-clause-answer
returns-in-Ok-clause-answer g c =
    c.collect_stream.ensures.answer (tables_of c.args.snapshot.now.catalog) (handle_seen c.args.handle.now) c.in-Ok.ensures.opens
