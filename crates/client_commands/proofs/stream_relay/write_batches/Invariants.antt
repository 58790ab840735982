use Rattle.std.proofs.Common.{◌≡◌, [], ℕ, List, Option}
use Rattle.arrow_types.specs.declared.schema.Schema.{Schema}
use Rattle.ipc_batch.specs.SaidRows.{Rows}
use Rattle.flight_info.specs.Payloads.{Payload}
use Rattle.flight_client.specs.Stream.{StreamAt}
use Rattle.client_calls.specs.Outcome.{Line}
use Rattle.command_ends.specs.Printing.{said_of}
use Rattle.client_commands.specs.Lines.{SameCounts}
use Rattle.client_commands.specs.inside.OneStream.{FitsSchema, IsUnderWay}
use Rattle.client_commands.proofs.stream_relay.write_batches.Given as goal

-- the batches so far were written
abbrev pub invariant-loop-batch : goal.invariant-loop-batch
invariant-loop-batch g l = record {
  passes : (ticket : Payload) (schema own : Schema) (rows : Rows) (start : Option (List ℕ)) (begun : Line) (stream : StreamAt) → stream.rows ≡ [] →
      IsUnderWay g.F.RowWriter.format ticket schema own rows start begun stream l.initial.fetching (said_of g.O.Output l.initial.output) (g.F.RowWriter.state l.initial.writer) →
      (now : StreamAt) × IsUnderWay g.F.RowWriter.format ticket schema own rows start begun now l.fetching (said_of g.O.Output l.output) (g.F.RowWriter.state l.writer);
  fits : FitsSchema l.fetching.state (g.F.RowWriter.state l.writer).schema;
  count : g.O.Output.failures l.output ≡ g.O.Output.failures l.initial.output;
  calls : SameCounts l.initial.fetching.line l.fetching.line;
}

abbrev pub decreases-loop-batch : goal.decreases-loop-batch
decreases-loop-batch g l = l.fetching.work
