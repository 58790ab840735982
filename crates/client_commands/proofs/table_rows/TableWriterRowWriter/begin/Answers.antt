use Rattle.std.proofs.Common.{refl, ap}
use Rattle.std.specs.List.{flat_map}
use Rattle.arrays.specs.Batch.{rows_of}
use Rattle.client_commands.proofs.Writers.{none_held}
use Rattle.client_commands.proofs.table_rows.TableWriterRowWriter.begin.Goals as goal

pub invariant_of-result : goal.invariant_of-result
invariant_of-result g c = none_held c.args.schema.now c.in_ok-schema.schema c.new.result.items c.in_ok-schema.ensures c.new.ensures.items c.requires.schema

pub returns-clause-bytes : goal.returns-clause-bytes
returns-clause-bytes g c = record { written = c.in_ok-schema.ensures; has = (ap (flat_map rows_of) c.new.ensures.items, refl) }
