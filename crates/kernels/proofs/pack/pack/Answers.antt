use Rattle.std.proofs.Common.{ℕ, Bool, eqb, not, false, map, ap, ◌∙◌, arith, w8}
use Rattle.std.proofs.lemmas.Simd.{bitmask_splat}
use Rattle.std.proofs.lemmas.List.{get_or-map}
use Rattle.kernels.specs.Words.{bit}
use Rattle.kernels.proofs.OctetBits.{bit_of_mask}
use Rattle.kernels.proofs.pack.pack.Goals as goal

pub returns : goal.returns
returns c = λ row lt.
    let p : ℕ → Bool = λ x. not (eqb x 0) in
    ap (λ (n : ℕ). bit n row) (bitmask_splat w8 (λ a b. not (eqb a b)) c.args.flags 64 0 c.fits-flags.0 (omega arith))
    ∙ bit_of_mask (map p c.args.flags) row ∙ get_or-map p c.args.flags row 0 false (omega (arith, c.fits-flags.0))
