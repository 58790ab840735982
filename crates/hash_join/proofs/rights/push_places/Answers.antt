use Rattle.std.proofs.Common.{ap, ◌++◌, ◌∷◌, [], ◌∙◌, sym, append_assoc, arith, map}
use Rattle.std.specs.List.{range_with_len}
use Rattle.std.proofs.lemmas.List.FromFn.{map-range_with_len_more}
use Rattle.hash_join.proofs.Places.{in_batch}
use Rattle.hash_join.proofs.rights.push_places.Goals as goal

pub loop-row-preserved : goal.loop-row-preserved
loop-row-preserved c =
    let row = c.loop-row.row in
    let place = in_batch c.args.batch row in
    c.in_ok-push.ensures.items
    ∙ ap (λ some. some ++ place ∷ []) c.loop-row.invariant
    ∙ append_assoc c.args.all.now.items (map (in_batch c.args.batch) (range_with_len 0 row)) (place ∷ [])
    ∙ ap (λ rest. c.args.all.now.items ++ rest) (sym (map-range_with_len_more (in_batch c.args.batch) 0 row row (omega arith)))
