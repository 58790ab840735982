use Rattle.std.proofs.Common.{◌≡◌, false, Ok, refl, ap, subst, ◌∙◌, arith}
use Rattle.arrow_types.specs.declared.schema.Schema.{Schema}
use Rattle.fetch_stream.specs.Morsels.{GivesSchema, MorselsAt}
use Rattle.fetch_stream.proofs.Going.{gives_schema}
use Rattle.fetch_stream.proofs.morsels.Morsels.first_payload.Goals as goal

pub returns : goal.returns
returns c =
    let payload = c.in_ok-schema_payload.field-0 in
    let says = c.in_ok-schema_payload.ensures in
    let same : c.schema.result.now ≡ c.args.self.now.schema = c.schema.ensures ∙ ap (λ (morsels : MorselsAt). morsels.schema) c.self.view_is in
    subst (λ (schema : Schema). GivesSchema schema (Ok payload)) same (λ rows. gives_schema c.schema.result.now false rows 0 payload refl (omega arith) says.said says.fits)
