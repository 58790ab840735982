use Rattle.std.proofs.Common.{◌+◌, ◌-◌, ◌*◌, ◌%◌, ◌^◌, ◌==◌, ◌∙◌, ℕ, Bool, List, ap, refl, arith, take, drop, w32}
use Rattle.std.specs.Simd.Lanes.{zip2, mask_l, number_l, digits_l, chunk}
use Rattle.std.proofs.lemmas.Simd.{bitmask_splat}
use Rattle.kernels.proofs.OffsetLanes.{offset_lanes, far_of}
use Rattle.kernels.proofs.texts.far_lanes.Goals as goal

pub returns : goal.returns
returns c =
    let offsets = c.args.offsets.now in
    let from = c.args.from in
    let far = c.args.far in
    let begins : List ℕ = digits_l (2 ^ 32) 16 (number_l 256 (chunk 0 64 (take (4 * from + 64 - 4 * from) (drop (4 * from) offsets)))) in
    let ends : List ℕ = digits_l (2 ^ 32) 16 (number_l 256 (chunk 0 64 (take (4 * from + 68 - (4 * from + 4)) (drop (4 * from + 4) offsets)))) in
    let b = offset_lanes offsets (4 * from) (4 * from + 64 - 4 * from) (omega arith) (omega arith) (λ k. omega (arith, c.type_inv.offsets k)) in
    let e = offset_lanes offsets (4 * from + 4) (4 * from + 68 - (4 * from + 4)) (omega arith) (omega arith) (λ k. omega (arith, c.type_inv.offsets k)) in
    let t : ℕ → ℕ → Bool = λ x y. x == y in
    bitmask_splat w32 t (zip2 (λ x y. (x + (2 ^ 32 - y)) % 2 ^ 32) ends begins) 16 far refl (omega arith)
    ∙ ap mask_l (far_of offsets from far begins ends b e)
