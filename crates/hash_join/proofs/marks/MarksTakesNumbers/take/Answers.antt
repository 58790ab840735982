use Rattle.std.proofs.Common.{◌≡◌, ◌≢◌, ◌<◌, ◌/◌, ℕ, length, get_or, ◌∙◌, arith}
use Rattle.std.proofs.lemmas.List.{get_or_read, length-set}
use Rattle.hash_join.proofs.Marking.{marked_other}
use Rattle.hash_join.proofs.marks.MarksTakesNumbers.take.Goals as goal

pub invariant_of-self : goal.invariant_of-self
invariant_of-self c =
    let marks = c.args.self.now in
    let place : ℕ = c.place-place.result in
    let inside : place < marks.span.count = omega (arith, c.if-place-self.true) in
    let there : place / 8 < length marks.bytes.items = omega (arith, inside, marks.room) in
    let differ : place ≢ marks.span.count = λ e. omega (arith, e, inside) in
    let read = get_or_read marks.bytes.items (place / 8) c.index_mut.result.now there c.index_mut.ensures.value 0 in
    let byte : c.index_mut.result.now ≡ get_or marks.bytes.items (place / 8) 0 = omega (arith, read) in
    record {
      room = omega (arith, marks.room, length-set {A = ℕ});
      few = marks.few;
      end = marked_other marks.bytes.items place marks.span.count c.index_mut.result.now there differ byte ∙ marks.end;
    }
