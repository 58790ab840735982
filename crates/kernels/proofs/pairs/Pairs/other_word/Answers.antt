use Rattle.std.proofs.Common.{◌+◌, Bool, if◌then◌else◌, sym, ap, ◌∙◌}
use Rattle.scan_base.specs.declared.value.Value.{Value}
use Rattle.scan_base.specs.declared.value.Value.TheVariants.{Null, Bool as Flag}
use Rattle.scan_base.specs.Comparison.{compared}
use Rattle.arrays.specs.Column.{slot_of}
use Rattle.kernels.specs.Words.{bit, by_bits}
use Rattle.kernels.proofs.Bits.{and_bit}
use Rattle.kernels.proofs.Paired.{flag_row}
use Rattle.kernels.proofs.pairs.Pairs.other_word.Goals as goal

pub returns-in-Some-Some : goal.returns-in-Some-Some
returns-in-Some-Some c = λ row lt.
    let s = c.args.self.now in
    let truths = c.compared_bits.result in
    let left = c.in-Some-Some.left in
    let right = c.in-Some-Some.right in
    let x : Bool = bit left.truths row in
    let y : Bool = bit right.truths row in
    ap (λ (b : Bool). by_bits (bit truths row) b) (and_bit left.knowns right.knowns row)
    ∙ flag_row s.comparison (bit truths row) (bit left.knowns row) (bit right.knowns row) x y (c.compared_bits.ensures row lt)
    ∙ ap (λ (v : Value). compared s.comparison v (if bit right.knowns row then Flag y else Null)) (sym (c.in-Some-Some.ensures row lt))
    ∙ ap (λ (v : Value). compared s.comparison (slot_of s.left.now (c.args.from + row)) v) (sym (c.in-Some-Some.ensures' row lt))
