use Rattle.std.proofs.Common.{◌≡◌, ◌<◌, ◌∷◌, [], ◌++◌, ℕ, drop, length, get_or, map, subst, take, arith}
use Rattle.std.proofs.lemmas.List.{get_or_default}
use Rattle.arrow_types.specs.declared.data_type.DataType.TheVariants.{Number}
use Rattle.arrow_types.specs.declared.data_type.NumberType.TheVariants.{Integer}
use Rattle.arrow_types.specs.declared.data_type.IntegerType.TheVariants.{Int8}
use Rattle.number_words.specs.NumberTexts.{types_tried}
use Rattle.csv_columns.proofs.Tried.{one_tried, taken, takes_more, tried_at}
use Rattle.csv_columns.proofs.type_candidates.TypeCandidates.numbers_with.Goals as goal

pub loop-place-preserved : goal.loop-place-preserved
loop-place-preserved c fields was =
    let field = c.args.field.now in
    let place = c.loop-place.place in
    let kind = get_or types_tried place (Integer Int8) in
    let low : place < length types_tried = omega (arith, c.loop-place-test.true) in
    let so_far = c.loop-place.invariant fields was in
    let is = get_or_default types_tried place (Integer Int8) kind low in
    let here = tried_at (taken fields) (taken (fields ++ field ∷ [])) types_tried place kind c.loop-place.numbers low is _ so_far in
    one_tried (taken fields) (taken (fields ++ field ∷ [])) types_tried place kind c.loop-place.numbers low is _ so_far
    (takes_more (Number kind) fields field _ _ c.still_takes-fits.ensures here)

pub returns : goal.returns
returns c fields was =
    let field = c.args.field.now in
    let over : c.loop-place.place ≡ length types_tried = omega (arith, c.loop-place-test.false) in
    subst (λ (n : ℕ). c.loop-place.numbers ≡ map (taken (fields ++ field ∷ [])) (take n types_tried) ++ map (taken fields) (drop n types_tried)) over (c.loop-place.invariant fields was)
