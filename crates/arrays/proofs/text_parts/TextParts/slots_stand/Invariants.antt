use Rattle.std.proofs.Common.{◌≡◌, ◌-◌}
use Rattle.std.specs.List.{list_all, range_with_len}
use Rattle.arrays.specs.Texts.{text_stands}
use Rattle.arrays.proofs.text_parts.TextParts.slots_stand.Given as goal

abbrev pub invariant-loop-place : goal.invariant-loop-place
invariant-loop-place l =
    list_all (text_stands l.self) (range_with_len l.place (l.self.len - l.place)) ≡ list_all (text_stands l.self) (range_with_len 0 l.self.len)
