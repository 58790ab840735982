use Rattle.std.proofs.Common.{◌≡◌, ◌≤◌, take}
use Rattle.std.specs.List.{sum_by}
use Rattle.array_select.specs.Room.{allowed}
use Rattle.array_select.proofs.room.text_share.Given as goal

-- the columns of texts so far, which are no more than all
abbrev pub invariant-loop-data_type : goal.invariant-loop-data_type
invariant-loop-data_type l = (l.with_texts ≡ sum_by (allowed 1) (take l.data_type-index l.types)) × (l.with_texts ≤ l.data_type-index)
