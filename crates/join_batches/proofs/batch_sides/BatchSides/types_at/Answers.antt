use Rattle.std.proofs.Common.{◌++◌, ◌∷◌, [], List, get_or, map, take, refl, ap, sym, ◌∙◌}
use Rattle.std.proofs.lemmas.List.{map-append}
use Rattle.arrow_types.specs.declared.data_type.DataType.{DataType}
use Rattle.join_batches.specs.BatchSides.{type_in}
use Rattle.join_batches.proofs.Typed.{taken_more}
use Rattle.join_batches.proofs.batch_sides.BatchSides.types_at.Goals as goal

pub loop-number-preserved : goal.loop-number-preserved
loop-number-preserved c =
    let sides = c.args.self.now in
    let shown = c.args.shown.now in
    let i = c.loop-number.number-index in
    let number = get_or shown i 0 in
    c.in_ok-push.ensures.items
    ∙ ap (λ (types : List DataType). types ++ c.type_of.result ∷ []) c.loop-number.invariant
    ∙ ap (λ (t : DataType). map (type_in sides) (take i shown) ++ t ∷ []) c.type_of.ensures
    ∙ sym (ap (map (type_in sides)) (taken_more shown i number c.loop-number-test.true refl) ∙ map-append (type_in sides) (take i shown) (number ∷ []))
