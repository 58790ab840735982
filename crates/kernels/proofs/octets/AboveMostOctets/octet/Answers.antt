use Rattle.std.proofs.Common.{◌+◌, ◌-◌, ◌*◌, ◌^◌, ◌∙◌, ℕ, ℤ, Bool, List, ap, refl, arith, rules, take, drop, int_lt, w64}
use Rattle.std.specs.Simd.Lanes.{mask_l, number_l, digits_l, chunk}
use Rattle.std.proofs.lemmas.Int.{to_z-of_z}
use Rattle.std.proofs.lemmas.Simd.{bitmask_splat}
use Rattle.byteorder.specs.Endian.{little_from}
use mir.Val.{to_z, of_z}
use Rattle.arrays.specs.Number.{element_at}
use Rattle.kernels.specs.Ranges.{long_at}
use Rattle.kernels.proofs.Lanes.{lanes, octet_of}
use Rattle.kernels.proofs.octets.AboveMostOctets.octet.Goals as goal

pub returns : goal.returns
unfolding element_at
returns c =
    let values = c.args.values.now in
    let from = c.args.from in
    let s = c.args.self.now in
    let xs : List ℕ = digits_l (2 ^ 64) 8 (number_l 256 (chunk 0 64 (take (8 * from + 64 - 8 * from) (drop (8 * from) values)))) in
    let are = lanes values from (omega arith) (λ k. omega (arith, c.type_inv.values k)) in
    let most = of_z w64 s.most in
    let t : ℕ → ℕ → Bool = λ a b. int_lt (to_z w64 b) (to_z w64 a) in
    let p : ℕ → Bool = λ j. int_lt s.most (long_at values j) in
    bitmask_splat w64 t xs 8 most refl (omega arith)
    ∙ ap mask_l (octet_of (λ x. t x most) p values from xs are (λ j. ap (λ (z : ℤ). int_lt z (to_z w64 (little_from (8 * j) 8 values))) (to_z-of_z w64 s.most (search rules))))
