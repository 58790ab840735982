use Rattle.std.proofs.Common.{◌≡◌, ◌++◌, map, take}
use Rattle.fault_hints.specs.MarkedLines.{shown_byte}
use Rattle.fault_hints.proofs.marked_lines.push_shown.Given as goal

abbrev pub invariant-loop-byte : goal.invariant-loop-byte
invariant-loop-byte l = l.lines.items ≡ l.fn.lines.items ++ map shown_byte (take l.byte-index l.line)
