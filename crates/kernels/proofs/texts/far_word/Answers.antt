use Rattle.std.proofs.Common.{◌≡◌, ℕ, Bool, ◌+◌, ◌-◌, ◌*◌, ◌∙◌, sym, ap, arith}
use Rattle.std.specs.Simd.Lanes.{mask_l}
use Rattle.kernels.specs.Tests.{tests}
use Rattle.kernels.specs.TextTests.{is_far}
use Rattle.kernels.specs.Words.{bit}
use Rattle.kernels.proofs.Bits.{no_tests, more_tests, tests_room, bit_of_tests}
use Rattle.kernels.proofs.texts.far_word.Goals as goal

pub loop-k-init : goal.loop-k-init
loop-k-init c = no_tests (is_far c.args.far c.args.offsets.now) (c.args.from + 64)

pub overflow_mul-word : goal.overflow_mul-word
overflow_mul-word c =
    let p : ℕ → Bool = is_far c.args.far c.args.offsets.now in
    let room = tests_room p (c.args.from + 16 * (4 - c.loop-k.k)) (16 * c.loop-k.k) 48 (omega arith) in
    record { fits = omega (arith, c.loop-k.invariant, room) }

pub overflow_add-word : goal.overflow_add-word
overflow_add-word c =
    let p : ℕ → Bool = is_far c.args.far c.args.offsets.now in
    let room = tests_room p (c.args.from + 16 * (4 - c.loop-k.k)) (16 * c.loop-k.k) 48 (omega arith) in
    let small = tests_room p (c.args.from + 16 * (3 - c.loop-k.k)) 16 16 (omega arith) in
    record { fits = omega (arith, c.loop-k.invariant, c.far_lanes.ensures, room, small) }

pub loop-k-preserved : goal.loop-k-preserved
loop-k-preserved c =
    let p : ℕ → Bool = is_far c.args.far c.args.offsets.now in
    let a = c.args.from + 16 * (3 - c.loop-k.k) in
    let e : c.args.from + 16 * (4 - c.loop-k.k) ≡ a + 16 = omega arith in
    let f : 16 + 16 * c.loop-k.k ≡ 16 * (c.loop-k.k + 1) = omega arith in
    let h : c.args.from + 16 * (4 - (c.loop-k.k + 1)) ≡ a = omega arith in
    let had : c.loop-k.word ≡ mask_l (tests p (a + 16) (16 * c.loop-k.k)) = c.loop-k.invariant ∙ ap (λ x. mask_l (tests p x (16 * c.loop-k.k))) e in
    let more = more_tests p a 16 (16 * c.loop-k.k) in
    let new : c.loop-k.word * 65536 + c.far_lanes.result ≡ mask_l (tests p a (16 + 16 * c.loop-k.k)) = omega (arith, had, more, c.far_lanes.ensures) in
    new ∙ ap (λ x. mask_l (tests p a x)) f ∙ ap (λ x. mask_l (tests p x (16 * (c.loop-k.k + 1)))) (sym h)

pub returns : goal.returns
returns c = λ row lt.
    let p : ℕ → Bool = is_far c.args.far c.args.offsets.now in
    let at : c.args.from + 16 * (4 - c.loop-k.k) ≡ c.args.from = omega arith in
    let n : 16 * c.loop-k.k ≡ 64 = omega arith in
    ap (λ (w : ℕ). bit w row) (c.loop-k.invariant ∙ ap (λ (a : ℕ). mask_l (tests p a (16 * c.loop-k.k))) at ∙ ap (λ (m : ℕ). mask_l (tests p c.args.from m)) n)
    ∙ bit_of_tests p c.args.from 64 row lt
