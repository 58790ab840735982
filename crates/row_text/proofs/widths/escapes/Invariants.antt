use Rattle.std.proofs.Common.{◌≡◌, take}
use Rattle.std.specs.List.{count_by}
use Rattle.row_text.specs.TableCells.{is_escaped}
use Rattle.row_text.proofs.widths.escapes.Given as goal

abbrev pub invariant-loop-byte : goal.invariant-loop-byte
invariant-loop-byte l = l.count ≡ count_by is_escaped (take l.byte-index l.text)
