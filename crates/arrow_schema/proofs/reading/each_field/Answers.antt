use Rattle.std.proofs.Common.{[], ◌∷◌, All, rules, arith, ◌∙◌, sym, subst}
use Rattle.std.proofs.lemmas.List.{length-append}
use Rattle.std.proofs.lemmas.List.Elements.{All-append, All-cons, All-nil}
use Rattle.scan_base.proofs.ReadingLaws.{numbers_more, numbers_stop}
use Rattle.arrow_types.specs.Schema.{IsField}
use Rattle.arrow_schema.specs.Header.{field_at}
use Rattle.arrow_schema.proofs.reading.each_field.Goals as goal

pub returns-in_err-field_at-clause-value : goal.returns-in_err-field_at-clause-value
returns-in_err-field_at-clause-value c =
    let v = c.args.vector.now in
    let stop = sym c.loop-index.invariant.0 ∙ numbers_stop (field_at v) c.loop-index.fields.items c.loop-index.index v.count c.in_err-field_at.field-0.0 (omega arith) c.in_err-field_at.ensures.value in
    search rules

pub loop-index-preserved : goal.loop-index-preserved
loop-index-preserved c =
    let v = c.args.vector.now in
    let fields = c.loop-index.fields.items in
    let one = c.in_ok-field_at.field-0 ∷ [] in
    let pushed = c.push.ensures.items in
    let more = numbers_more (field_at v) fields c.loop-index.index v.count c.in_ok-field_at.field-0 (omega arith) c.in_ok-field_at.ensures.value in
    let long = length-append fields one in
    let count = c.loop-index.invariant.1 in
    let last = All-cons IsField c.in_ok-field_at.field-0 [] c.in_ok-field_at.ensures.valid (All-nil IsField) in (
      rw pushed (sym more ∙ c.loop-index.invariant.0),
      rw pushed (omega arith),
      subst (All IsField) (sym pushed) (All-append IsField fields one c.loop-index.invariant.2 last),
    )
