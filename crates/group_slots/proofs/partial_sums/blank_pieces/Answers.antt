use Rattle.std.proofs.Common.{◌≡◌}
use Rattle.std.proofs.lemmas.List.Elements.{All-replicate}
use Rattle.group_slots.specs.declared.partial_sums.PartialSum.{PartialSum}
use Rattle.group_slots.specs.Tallies.{no_rows}
use Rattle.group_slots.specs.Pieces.{piece_tally}
use Rattle.group_slots.proofs.partial_sums.blank_pieces.Goals as goal

pub returns : goal.returns
returns c = All-replicate (λ (piece : PartialSum). piece_tally piece ≡ no_rows) 1024 c.new.result c.new.ensures
