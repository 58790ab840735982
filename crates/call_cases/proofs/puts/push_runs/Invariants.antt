use denote.Shadow.{shadow}
use denote.Text.{Utf8}
use Rattle.call_cases.proofs.puts.push_runs.Given as goal

-- the last row is text, since it was cut from text
abbrev pub invariant-loop-row : goal.invariant-loop-row
invariant-loop-row l = shadow (Utf8 l.last)
