use Rattle.std.proofs.Common.{◌≡◌}
use Rattle.server_cases.proofs.open_stream.add_lines.Given as goal

-- no write failed
abbrev pub invariant-loop-batch : goal.invariant-loop-batch
invariant-loop-batch l = l.output.failures ≡ 0
