use Rattle.std.proofs.Common.{◌≡◌, [], ◌++◌, ℕ, List, length}
use Rattle.client_calls.specs.Outcome.{Line}
use Rattle.client_calls.specs.declared.put_call.Target.{Target}
use Rattle.client_commands.specs.inside.RowsSent.{HaveSent}
use Rattle.client_commands.proofs.rows_put.send_rows.Given as goal

-- the rows of the records that were taken were sent
abbrev pub invariant-loop-rows : goal.invariant-loop-rows
invariant-loop-rows g l = record {
  schema : l.rows.schema ≡ l.text.schema;
  sent : (target : Target) (begun : Line) → HaveSent target l.text [] begun l.initial.putting →
      (done : List (List (List ℕ))) × (l.text.records ≡ done ++ l.rows.records) × HaveSent target l.text done begun l.putting;
  count : l.putting.line.outgoing.failed ≡ l.initial.putting.line.outgoing.failed;
}

abbrev pub decreases-loop-rows : goal.decreases-loop-rows
decreases-loop-rows g l = length l.rows.records
