use Rattle.std.proofs.Common.{◌≡◌, ◌<◌, length, List, subst, get_or, arith}
use Rattle.arrow_types.specs.declared.schema.Field.{Field}
use Rattle.row_stream.proofs.Numbers.{numbered_next}
use Rattle.row_stream.proofs.dresser.number.Goals as goal

pub loop-field-preserved : goal.loop-field-preserved
loop-field-preserved c =
    let fields = c.args.schema.now.fields in
    let index = c.loop-field.field-index in
    let item = c.field-item.result in
    let inside : index < length fields = subst (λ (l : List Field). index < length l) c.as_slice-field-items.ensures c.loop-field-test.true in
    let is : item ≡ get_or fields index item = subst (λ (l : List Field). item ≡ get_or l index item) c.as_slice-field-items.ensures c.field-item.is in
    record {
      fields = numbered_next fields index c.loop-field.number item c.in_ok-answered.field-0 c.loop-field.fields c.push.new.self inside is c.loop-field.invariant.number c.in_ok-answered.ensures c.loop-field.invariant.fields c.in_ok-push.ensures.ok;
      number = omega (arith, c.loop-field.invariant.number);
    }
