use Rattle.std.proofs.Common.{◌≡◌, ℕ, Bool, ◌+◌, ◌-◌, ◌*◌, ◌==◌, ◌∙◌, ap, arith}
use Rattle.std.specs.Simd.Lanes.{mask_l}
use Rattle.arrays.specs.Number.{element_at}
use Rattle.kernels.specs.Tests.{tests}
use Rattle.kernels.proofs.Bits.{no_tests, tests_room}
use Rattle.kernels.proofs.CodeLanes.{part_more}
use Rattle.kernels.proofs.codes.joined_ints.Goals as goal

pub loop-k-init : goal.loop-k-init
loop-k-init c = no_tests (λ (place : ℕ). element_at 4 c.args.values.now place == c.args.code) (c.args.from + 64)

pub overflow_mul-word : goal.overflow_mul-word
overflow_mul-word c =
    let p : ℕ → Bool = λ place. element_at 4 c.args.values.now place == c.args.code in
    let room = tests_room p (c.args.from + 16 * (4 - c.loop-k.k)) (16 * c.loop-k.k) 48 (omega arith) in
    record { fits = omega (arith, c.loop-k.invariant, room) }

pub overflow_add-word : goal.overflow_add-word
overflow_add-word c =
    let p : ℕ → Bool = λ place. element_at 4 c.args.values.now place == c.args.code in
    let room = tests_room p (c.args.from + 16 * (4 - c.loop-k.k)) (16 * c.loop-k.k) 48 (omega arith) in
    let small = tests_room p (c.args.from + 16 * (3 - c.loop-k.k)) 16 16 (omega arith) in
    record { fits = omega (arith, c.loop-k.invariant, c.ints_with_code.ensures, room, small) }

pub loop-k-preserved : goal.loop-k-preserved
loop-k-preserved c =
    let p : ℕ → Bool = λ place. element_at 4 c.args.values.now place == c.args.code in
    let at = c.args.from + 16 * (3 - c.loop-k.k) in
    let same : at ≡ c.args.from + 16 * (4 - (c.loop-k.k + 1)) = omega arith in
    part_more p at 16 (c.args.from + 16 * (4 - c.loop-k.k)) (16 * c.loop-k.k) (16 * (c.loop-k.k + 1)) c.loop-k.word c.ints_with_code.result (omega arith) (omega arith) c.loop-k.invariant c.ints_with_code.ensures
    ∙ ap (λ (a : ℕ). mask_l (tests p a (16 * (c.loop-k.k + 1)))) same

pub returns : goal.returns
returns c =
    let p : ℕ → Bool = λ place. element_at 4 c.args.values.now place == c.args.code in
    let at : c.args.from + 16 * (4 - c.loop-k.k) ≡ c.args.from = omega arith in
    let n : 16 * c.loop-k.k ≡ 64 = omega arith in
    c.loop-k.invariant ∙ ap (λ (a : ℕ). mask_l (tests p a (16 * c.loop-k.k))) at ∙ ap (λ (m : ℕ). mask_l (tests p c.args.from m)) n
