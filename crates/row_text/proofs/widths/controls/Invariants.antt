use Rattle.std.proofs.Common.{◌≡◌, take}
use Rattle.std.specs.List.{count_by}
use Rattle.row_text.specs.TableCells.{is_control}
use Rattle.row_text.proofs.widths.controls.Given as goal

abbrev pub invariant-loop-byte : goal.invariant-loop-byte
invariant-loop-byte l = l.count ≡ count_by is_control (take l.byte-index l.text)
