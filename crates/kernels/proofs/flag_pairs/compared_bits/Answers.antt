use Rattle.std.proofs.Common.{Bool, not, ◌&&◌, ◌||◌, sym, ap, ◌∙◌}
use Rattle.std.specs.Int.RustNames.{bit_xor}
use Rattle.std.specs.Ordering.{bool_cmp}
use Rattle.scan_base.specs.declared.comparison.Comparison.{Comparison}
use Rattle.scan_base.specs.Comparison.{satisfies}
use Rattle.kernels.specs.Words.{bit}
use Rattle.kernels.proofs.Bits.{and_bit, or_bit, xor_bit}
use Rattle.kernels.proofs.OctetBits.{turned_bit}
use Rattle.kernels.proofs.Paired.{flag_equal, flag_other, flag_less, flag_at_most, flag_greater, flag_at_least}
use Rattle.kernels.proofs.flag_pairs.compared_bits.Goals as goal

pub returns-in-Equal : goal.returns-in-Equal
returns-in-Equal c = λ row lt.
    let x : Bool = bit c.args.lefts row in
    let y : Bool = bit c.args.rights row in
    turned_bit (bit_xor c.args.lefts c.args.rights) row lt ∙ ap not (xor_bit c.args.lefts c.args.rights row)
    ∙ flag_equal x y ∙ sym (ap (λ (d : Comparison). satisfies d (bool_cmp x y)) c.in-Equal.is)

pub returns-in-NotEqual : goal.returns-in-NotEqual
returns-in-NotEqual c = λ row lt.
    let x : Bool = bit c.args.lefts row in
    let y : Bool = bit c.args.rights row in
    xor_bit c.args.lefts c.args.rights row
    ∙ flag_other x y ∙ sym (ap (λ (d : Comparison). satisfies d (bool_cmp x y)) c.in-NotEqual.is)

pub returns-in-Less : goal.returns-in-Less
returns-in-Less c = λ row lt.
    let x : Bool = bit c.args.lefts row in
    let y : Bool = bit c.args.rights row in
    and_bit (bit_xor c.args.lefts 18446744073709551615) c.args.rights row ∙ ap (λ (b : Bool). b && y) (turned_bit c.args.lefts row lt)
    ∙ flag_less x y ∙ sym (ap (λ (d : Comparison). satisfies d (bool_cmp x y)) c.in-Less.is)

pub returns-in-LessOrEqual : goal.returns-in-LessOrEqual
returns-in-LessOrEqual c = λ row lt.
    let x : Bool = bit c.args.lefts row in
    let y : Bool = bit c.args.rights row in
    or_bit (bit_xor c.args.lefts 18446744073709551615) c.args.rights row ∙ ap (λ (b : Bool). b || y) (turned_bit c.args.lefts row lt)
    ∙ flag_at_most x y ∙ sym (ap (λ (d : Comparison). satisfies d (bool_cmp x y)) c.in-LessOrEqual.is)

pub returns-in-Greater : goal.returns-in-Greater
returns-in-Greater c = λ row lt.
    let x : Bool = bit c.args.lefts row in
    let y : Bool = bit c.args.rights row in
    and_bit c.args.lefts (bit_xor c.args.rights 18446744073709551615) row ∙ ap (λ (b : Bool). x && b) (turned_bit c.args.rights row lt)
    ∙ flag_greater x y ∙ sym (ap (λ (d : Comparison). satisfies d (bool_cmp x y)) c.in-Greater.is)

pub returns-in-GreaterOrEqual : goal.returns-in-GreaterOrEqual
returns-in-GreaterOrEqual c = λ row lt.
    let x : Bool = bit c.args.lefts row in
    let y : Bool = bit c.args.rights row in
    or_bit c.args.lefts (bit_xor c.args.rights 18446744073709551615) row ∙ ap (λ (b : Bool). x || b) (turned_bit c.args.rights row lt)
    ∙ flag_at_least x y ∙ sym (ap (λ (d : Comparison). satisfies d (bool_cmp x y)) c.in-GreaterOrEqual.is)
