use Rattle.std.proofs.Common.{◌++◌, ◌∷◌, [], List, ap, sym, ◌∙◌}
use Rattle.arrow_types.specs.declared.data_type.DataType.{DataType}
use Rattle.arrow_types.specs.declared.schema.Field.{Field}
use Rattle.row_sources.proofs.BeginTree.{types_more}
use Rattle.row_sources.proofs.scan_source.types_at.Goals as goal

pub loop-number-preserved : goal.loop-number-preserved
loop-number-preserved c =
    let field = c.index-fields-number.result in
    c.in_ok-push.ensures.items
    ∙ ap (λ (f : Field). c.loop-number.types.items ++ f.data_type ∷ []) (sym c.index-fields-number.is)
    ∙ ap (λ (types : List DataType). types ++ field.data_type ∷ []) c.loop-number.invariant
    ∙ sym (types_more c.args.fields.now c.args.numbers.now c.loop-number.number-index field c.loop-number-test.true c.requires c.index-fields-number.is)
