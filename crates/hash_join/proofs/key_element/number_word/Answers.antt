use Rattle.std.proofs.Common.{◌≡◌, ◌+◌, ◌-◌, ◌*◌, ℕ, Bool, ap, ap₂, ◌∙◌, arith}
use mir.Val.{bool_byte}
use Rattle.std.specs.Int.{w128}
use Rattle.std.proofs.lemmas.Int.{to_z-of_z}
use Rattle.arrays.specs.Number.{integer_at}
use Rattle.hash_join.specs.Words.{passing_word}
use Rattle.hash_join.proofs.Words.{bit_is, bit_small, word_more, word_room}
use Rattle.hash_join.proofs.key_element.number_word.Goals as goal

pub overflow_mul-word : goal.overflow_mul-word
overflow_mul-word g c =
    let p : ℕ → Bool = λ (place : ℕ). g.L.Look.passes c.args.look.now (integer_at g.E.Integer.KIND c.args.values.now place) in
    let taken = c.loop-taken.taken in
    let low = word_room p (c.args.from + (c.args.count - taken)) taken 63 (omega (arith, c.loop-taken-test.true, c.requires.few)) in
    record { fits = omega (arith, low, c.loop-taken.invariant) }

pub overflow_add-word : goal.overflow_add-word
overflow_add-word g c =
    let p : ℕ → Bool = λ (place : ℕ). g.L.Look.passes c.args.look.now (integer_at g.E.Integer.KIND c.args.values.now place) in
    let taken = c.loop-taken.taken in
    let low = word_room p (c.args.from + (c.args.count - taken)) taken 63 (omega (arith, c.loop-taken-test.true, c.requires.few)) in
    record { fits = omega (arith, low, c.loop-taken.invariant, bit_small c.passes.result) }

pub loop-taken-preserved : goal.loop-taken-preserved
loop-taken-preserved g c =
    let p : ℕ → Bool = λ (place : ℕ). g.L.Look.passes c.args.look.now (integer_at g.E.Integer.KIND c.args.values.now place) in
    let taken : ℕ = c.loop-taken.taken in
    let at : ℕ = c.args.from + (c.args.count - (taken + 1)) in
    let next : c.args.from + (c.args.count - taken) ≡ at + 1 = omega (arith, c.loop-taken-test.true) in
    let had : c.loop-taken.word ≡ passing_word p (at + 1) taken = c.loop-taken.invariant ∙ ap (λ (from : ℕ). passing_word p from taken) next in
    let here : c.args.from + (c.args.count - 1 - taken) ≡ at = omega arith in
    let says : c.passes.result ≡ p at =
    c.passes.ensures ∙ ap (g.L.Look.passes c.args.look.now) (to_z-of_z w128 c.number_at.result (record { sfits = c.number_at.type_inv }) ∙ c.number_at.ensures ∙ ap (integer_at g.E.Integer.KIND c.args.values.now) here) in
    ap₂ (λ (word : ℕ) (bit : Bool). 2 * word + bool_byte bit) had says ∙ ap (λ (bit : ℕ). 2 * passing_word p (at + 1) taken + bit) (bit_is (p at)) ∙ word_more p at taken
