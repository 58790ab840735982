use Rattle.std.proofs.Common.{◌≡◌, ◌<◌, ◌^◌, ◌++◌, [], ℕ, List, length, take, sym, ap, ◌∙◌, arith, append-nil}
use Rattle.std.proofs.lemmas.List.{length-set}
use Rattle.hash_join.specs.Words.{set_bits}
use Rattle.hash_join.proofs.Words.{first_fits, next_row, no_bits, others_fit, row_kept}
use Rattle.hash_join.proofs.left_pieces.keep_rows.Goals as goal

pub overflow_add-kept : goal.overflow_add-kept
overflow_add-kept c =
    let some : 0 < c.bits.left = omega (arith, c.bits-test.true) in
    let fits : c.bits.left < 2 ^ 64 = omega (arith, c.bits.auto.left-fits) in
    record { fits = omega (arith, first_fits c.args.from c.bits.left some fits (2 ^ 32) c.bits.invariant.small) }

pub overflow_cast-kept-in-bits : goal.overflow_cast-kept-in-bits
overflow_cast-kept-in-bits c =
    let some : 0 < c.bits.left = omega (arith, c.bits-test.true) in
    let fits : c.bits.left < 2 ^ 64 = omega (arith, c.bits.auto.left-fits) in
    record { fits = omega (arith, first_fits c.args.from c.bits.left some fits (2 ^ 32) c.bits.invariant.small) }

pub bounds-kept-next : goal.bounds-kept-next
bounds-kept-next c =
    let some : 0 < c.bits.left = omega (arith, c.bits-test.true) in
    let fits : c.bits.left < 2 ^ 64 = omega (arith, c.bits.auto.left-fits) in
    let more = ap length (next_row c.args.from c.bits.left some fits) in
    omega (arith, more, c.bits.invariant.room, c.bits.invariant.long, c.requires.room)

pub bits-preserved : goal.bits-preserved
bits-preserved c =
    let from : ℕ = c.args.from in
    let left = c.bits.left in
    let had = c.bits.invariant in
    let some : 0 < left = omega (arith, c.bits-test.true) in
    let fits : left < 2 ^ 64 = omega (arith, c.bits.auto.left-fits) in
    let more = ap length (next_row from left some fits) in
    let there : c.bits.next < length c.bits.kept = omega (arith, more, had.room, had.long, c.requires.room) in
    record {
      long = length-set c.bits.kept c.bits.next _ ∙ had.long;
      small = others_fit from left some fits (2 ^ 32) had.small;
      room = omega (arith, more, had.room);
      kept = row_kept from left some fits c.bits.kept _ c.bits.next there had.kept;
    }

pub returns : goal.returns
returns c =
    let from : ℕ = c.args.from in
    let had = c.bits.invariant in
    let none : c.bits.left ≡ 0 = omega (arith, c.bits-test.false) in
    let no : set_bits 64 from c.bits.left ≡ [] = ap (set_bits 64 from) none ∙ no_bits 64 from in
    record {
      count = omega (arith, ap length no, had.room);
      long = had.long;
      kept = sym (append-nil (take c.bits.next c.bits.kept)) ∙ ap (λ (rows : List ℕ). take c.bits.next c.bits.kept ++ rows) (sym no) ∙ had.kept;
    }
