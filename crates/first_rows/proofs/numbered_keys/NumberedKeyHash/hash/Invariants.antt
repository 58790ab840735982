use Rattle.std.proofs.Common.{◌≡◌, take}
use Rattle.std.specs.List.{fold, flat_map}
use Rattle.first_rows.specs.Parts.{part_input}
use Rattle.first_rows.specs.NumberedKeys.{rest_of}
use Rattle.first_rows.proofs.numbered_keys.NumberedKeyHash.hash.Given as goal

abbrev pub invariant-loop-place : goal.invariant-loop-place
invariant-loop-place g l =
    l.state ≡ fold g.H.Hasher.write l.initial.state (flat_map part_input (take l.place (rest_of l.self)))
