use Rattle.std.proofs.Common.{◌≡◌, ◌∙◌, ◌/◌, ◌++◌, ◌∷◌, [], ℕ, List, length, map, ap, sym, arith}
use Rattle.std.specs.List.{range_with_len}
use Rattle.std.proofs.lemmas.List.FromFn.{map-range_with_len_more}
use Rattle.arrays.specs.Number.{element_at}
use Rattle.dictionary_answers.specs.inside.PackedPlaces.{numbers_in}
use Rattle.dictionary_answers.proofs.packed_numbers.unpack_numbers.Goals as goal

pub loop-slot-preserved : goal.loop-slot-preserved
loop-slot-preserved c =
    let f = λ (k : ℕ). element_at 4 c.args.bytes.now k in
    let so_far : List ℕ = map f (range_with_len 0 c.loop-slot.slot) in
    c.in_ok-push.ensures.items ∙ ap (λ (xs : List ℕ). xs ++ c.read.result ∷ []) c.loop-slot.invariant
    ∙ ap (λ (x : ℕ). so_far ++ x ∷ []) c.read.ensures
    ∙ sym (map-range_with_len_more f 0 c.loop-slot.slot c.loop-slot.slot (omega arith))

pub returns : goal.returns
unfolding numbers_in
returns c =
    let f = λ (k : ℕ). element_at 4 c.args.bytes.now k in
    let all : c.loop-slot.slot ≡ length c.args.bytes.now / 4 = omega arith in
    c.loop-slot.invariant ∙ ap (λ (n : ℕ). map f (range_with_len 0 n)) all
