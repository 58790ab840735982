use Rattle.std.proofs.Common.{◌+◌, ◌==◌, ℕ, Bool, List, Option, sym, ap, ◌∙◌}
use Rattle.std.specs.Int.{bit_at}
use Rattle.arrays.specs.Validity.{is_valid}
use Rattle.arrays.proofs.ValidWords.{bit_of_all, bit_of_taken}
use Rattle.arrays.proofs.validity.Validity.valid_word.Goals as goal

pub returns-in-None : goal.returns-in-None
returns-in-None c = λ row lt.
    bit_of_all row lt ∙ sym (ap (λ (v : Option (List Bool)). is_valid v (c.args.from + row)) (sym c.bits.ensures ∙ c.in-None.is))

pub returns-in-Some : goal.returns-in-Some
returns-in-Some c = λ row lt.
    ap (λ (w : ℕ). bit_at w row == 1) c.word.ensures ∙ bit_of_taken c.in-Some.bits c.args.from row lt
    ∙ sym (ap (λ (v : Option (List Bool)). is_valid v (c.args.from + row)) (sym c.bits.ensures ∙ c.in-Some.is))
