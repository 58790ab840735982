use Rattle.std.proofs.Common.{◌+◌, ◌++◌, ap, sym, ◌∙◌, arith, drop}
use Rattle.hash_join.specs.Pairs.{places}
use Rattle.hash_join.proofs.Places.{places_from, places_in, places_is, rows_few, more_places}
use Rattle.hash_join.proofs.rights.places_of.Goals as goal

pub loop-number-init : goal.loop-number-init
loop-number-init c = rw c.new-all.ensures.items (sym (places_is c.args.batches.now))

pub push_places-requires : goal.push_places-requires
push_places-requires c =
    let batch = c.index-batches-number.result in
    let few = rows_few c.args.batches.now c.loop-number.number batch c.loop-number.all.items (places c.args.batches.now)
    c.loop-number-test.true c.index-batches-number.is c.loop-number.invariant in
    omega (arith, few, c.rows.ensures, c.requires.few)

pub loop-number-preserved : goal.loop-number-preserved
loop-number-preserved c =
    let batch = c.index-batches-number.result in
    let number = c.loop-number.number in
    ap (λ made. made ++ places_from (number + 1) (drop (number + 1) c.args.batches.now))
    (c.in_ok-push_places.ensures ∙ ap (λ rows. c.loop-number.all.items ++ places_in number rows) c.rows.ensures)
    ∙ more_places c.args.batches.now number batch c.loop-number.all.items (places c.args.batches.now)
    c.loop-number-test.true c.index-batches-number.is c.loop-number.invariant
