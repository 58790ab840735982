use Rattle.std.proofs.Common.{◌∙◌, ℕ, List, sym, subst}
use Rattle.csv_input.proofs.Begun.{SaysSchema, first_said, schema_says}
use Rattle.csv_input.proofs.message.schema_message.Goals as goal

pub returns : goal.returns
returns c =
    let schema = c.args.schema.now in
    let header = c.in_ok-header.header in
    let says = subst (λ (body : List ℕ). SaysSchema schema (record { header = header; body = body })) (sym (c.in_ok-body.ensures.ok ∙ c.new.ensures.items))
    (schema_says schema header c.requires (c.in_ok-header.ensures.ok ∙ c.in_ok-write_schema.ensures.items)) in
    first_said _ schema says
