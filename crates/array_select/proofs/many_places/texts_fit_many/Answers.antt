use Rattle.std.proofs.Common.{length, map, sym, arith}
use Rattle.std.proofs.lemmas.Bool.{lt-leb}
use Rattle.std.proofs.lemmas.List.{length-map}
use Rattle.array_select.specs.GatherMany.{value_in}
use Rattle.arrays.specs.WrittenSlots.{texts_joined}
use Rattle.array_select.proofs.GatheredMany.{past_values}
use Rattle.array_select.proofs.many_places.texts_fit_many.Goals as goal

pub returns-then-bytes-left : goal.returns-then-bytes-left
returns-then-bytes-left c =
    let columns = map (λ column. column.now) c.args.columns.now in
    let values = map (value_in columns) c.args.places.now in
    let less = rw c.text-bytes.ensures at c.if-bytes-left.true in
    let more = past_values values c.loop-number.number c.loop-number.left (omega (arith, c.loop-number-test.true, length-map c.args.places.now (value_in columns))) less in
    sym (lt-leb (length (texts_joined values)) c.args.most (omega (arith, more, c.loop-number.invariant)))
