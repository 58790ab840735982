use Rattle.std.proofs.Common.{◌≡◌, ◌++◌, take}
use Rattle.fault_hints.specs.MarkedLines.{blanks_of}
use Rattle.fault_hints.proofs.marked_lines.push_blanks.Given as goal

abbrev pub invariant-loop-byte : goal.invariant-loop-byte
invariant-loop-byte l = l.lines.items ≡ l.fn.lines.items ++ blanks_of (take l.byte-index l.line)
