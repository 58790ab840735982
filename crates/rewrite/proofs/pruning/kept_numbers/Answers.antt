use Rattle.std.proofs.Common.{◌≡◌, ◌++◌, ◌∷◌, [], get_or}
use Rattle.rewrite.specs.PrunedColumns.{used_of}
use Rattle.rewrite.proofs.UsedColumns.{kept_more, left_out}
use Rattle.rewrite.proofs.pruning.kept_numbers.Goals as goal
use Rattle.rewrite.proofs.pruning.kept_numbers.Goals.{then-uses-place+in_ok-push, else-uses-place}

pub loop-place-preserved : goal.loop-place-preserved
loop-place-preserved c =
    let uses = c.args.uses.now in
    let numbers = c.args.numbers.now in
    let i = c.loop-place.place in
    let made = c.loop-place.made.items in
    let new = c.if-uses-place.made.items in
    elim c.if-uses-place.branch [
      | then-uses-place+in_ok-push w ↦
          let is : new ≡ made ++ get_or numbers i 0 ∷ [] = cc (w.made-is, w.in_ok-push.ensures.items) in
          kept_more uses numbers i made new (used_of uses numbers) c.requires c.loop-place-test.true w.if-uses-place.true is c.loop-place.invariant
      | else-uses-place w ↦
          let is : new ≡ made = cc w.made-is in
          left_out uses numbers i made new (used_of uses numbers) c.requires c.loop-place-test.true w.if-uses-place.false is c.loop-place.invariant
    ]
