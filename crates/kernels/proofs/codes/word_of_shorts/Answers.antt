use Rattle.std.proofs.Common.{◌==◌, ◌^◌, ◌+◌, ℕ, sym, ap, ◌∙◌, arith}
use Rattle.arrays.specs.Number.{element_at}
use Rattle.kernels.specs.Words.{bit}
use Rattle.kernels.proofs.Bits.{bit_of_none, bit_of_tests}
use Rattle.kernels.proofs.CodeLanes.{too_large, not_small}
use Rattle.kernels.proofs.codes.word_of_shorts.Goals as goal

pub returns-in-Ok : goal.returns-in-Ok
returns-in-Ok c row lt =
    let values = c.args.values.now in
    ap (λ (w : ℕ). bit w row) c.joined_shorts.ensures
    ∙ bit_of_tests (λ (place : ℕ). element_at 2 values place == c.in-Ok.code) c.args.from 64 row lt
    ∙ ap (λ (n : ℕ). element_at 2 values (c.args.from + row) == n) c.in-Ok.ensures.1

pub returns-in-Err : goal.returns-in-Err
returns-in-Err c row lt =
    bit_of_none row
    ∙ sym (too_large 2 (c.args.from + row) c.args.code c.args.values.now (λ k. omega (arith, c.type_inv.values k)) (not_small c.args.code (2 ^ 16) c.in-Err.ensures))
