use Rattle.std.proofs.Common.{◌+◌, ◌-◌, ◌*◌, ◌^◌, ◌∙◌, ℕ, List, ap, refl, arith, take, drop, eqb, w16}
use Rattle.std.specs.Simd.Lanes.{mask_l, number_l, digits_l, chunk}
use Rattle.std.proofs.lemmas.Simd.{bitmask_splat}
use Rattle.kernels.proofs.CodeLanes.{lanes, lane_tests}
use Rattle.kernels.proofs.codes.shorts_with_code.Goals as goal

pub returns : goal.returns
returns c =
    let values = c.args.values.now in
    let from = c.args.from in
    let xs : List ℕ = digits_l (2 ^ 16) 32 (number_l 256 (chunk 0 64 (take (2 * from + 64 - 2 * from) (drop (2 * from) values)))) in
    let are = lanes 2 32 (2 ^ 16) from (2 * from) values refl (λ k lt. omega arith) (λ k. omega arith) (omega arith) (λ k. omega (arith, c.type_inv.values k)) in
    bitmask_splat w16 eqb xs 32 c.args.code refl (omega arith)
    ∙ ap mask_l (lane_tests (λ (x : ℕ). eqb x c.args.code) 2 32 from values xs are)
