use Rattle.std.proofs.Common.{◌+◌, ◌-◌, ◌*◌, ◌^◌, ◌∙◌, ℕ, List, ap, refl, arith, take, drop, eqb, w32}
use Rattle.std.specs.Simd.Lanes.{mask_l, number_l, digits_l, chunk}
use Rattle.std.proofs.lemmas.Simd.{bitmask_splat}
use Rattle.kernels.proofs.CodeLanes.{lanes, lane_tests}
use Rattle.kernels.proofs.codes.ints_with_code.Goals as goal

pub returns : goal.returns
returns c =
    let values = c.args.values.now in
    let from = c.args.from in
    let xs : List ℕ = digits_l (2 ^ 32) 16 (number_l 256 (chunk 0 64 (take (4 * from + 64 - 4 * from) (drop (4 * from) values)))) in
    let are = lanes 4 16 (2 ^ 32) from (4 * from) values refl (λ k lt. omega arith) (λ k. omega arith) (omega arith) (λ k. omega (arith, c.type_inv.values k)) in
    bitmask_splat w32 eqb xs 16 c.args.code refl (omega arith)
    ∙ ap mask_l (lane_tests (λ (x : ℕ). eqb x c.args.code) 4 16 from values xs are)
