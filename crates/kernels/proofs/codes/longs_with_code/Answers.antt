use Rattle.std.proofs.Common.{◌+◌, ◌-◌, ◌*◌, ◌^◌, ◌∙◌, ℕ, List, ap, refl, arith, take, drop, eqb, w64}
use Rattle.std.specs.Simd.Lanes.{mask_l, number_l, digits_l, chunk}
use Rattle.std.proofs.lemmas.Simd.{bitmask_splat}
use Rattle.kernels.proofs.CodeLanes.{lanes, lane_tests}
use Rattle.kernels.proofs.codes.longs_with_code.Goals as goal

pub returns : goal.returns
returns c =
    let values = c.args.values.now in
    let from = c.args.from in
    let xs : List ℕ = digits_l (2 ^ 64) 8 (number_l 256 (chunk 0 64 (take (8 * from + 64 - 8 * from) (drop (8 * from) values)))) in
    let are = lanes 8 8 (2 ^ 64) from (8 * from) values refl (λ k lt. omega arith) (λ k. omega arith) (omega arith) (λ k. omega (arith, c.type_inv.values k)) in
    bitmask_splat w64 eqb xs 8 c.args.code refl (omega arith)
    ∙ ap mask_l (lane_tests (λ (x : ℕ). eqb x c.args.code) 8 8 from values xs are)
