use Rattle.std.proofs.Common.{◌<◌, ℕ, List, Bor, length, ap, ◌∙◌, arith}
use Rattle.csv.specs.Records.{fields_of, partial_of}
use Rattle.csv_input.proofs.Placed.{fields_more, found_at}
use Rattle.csv_input.proofs.chunk.push_fields.Goals as goal

pub loop-place-preserved : goal.loop-place-preserved
loop-place-preserved c =
    let fields = fields_of c.args.fields.now in
    let place = c.loop-place.place in
    let low : place < length fields = omega (arith, c.loop-place-test.true, c.len-place-end.ensures) in
    let is = ap (λ (s : Bor (List ℕ)). s.now) c.unwrap_or.ensures ∙ found_at fields place c.get.result _ c.get.ensures.value low in
    record {
      fields = fields_more (fields_of c.args.all.now) (fields_of c.loop-place.all) (fields_of c.push_field.new.self) fields place (partial_of c.loop-place.all) c.unwrap_or.result.now low
          c.loop-place.invariant.partial is c.loop-place.invariant.fields c.in_ok-push_field.ensures.fields;
      partial = c.in_ok-push_field.ensures.partial;
    }
