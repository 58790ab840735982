use Rattle.std.proofs.Common.{◌≡◌, map, take}
use Rattle.grouping.specs.inside.Placing.{place_of}
use Rattle.grouping.proofs.group_answers.places.Given as goal

abbrev pub invariant-loop-place : goal.invariant-loop-place
invariant-loop-place l = l.places.items ≡ map place_of (take l.place l.firsts.keys)
