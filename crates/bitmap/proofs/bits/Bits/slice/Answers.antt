use Rattle.std.proofs.Common.{◌∙◌, ◌+◌, ◌-◌, ap, length, arith, List, ℕ}
use Rattle.bitmap.specs.Bits.{bits_of}
use Rattle.bitmap.proofs.Masks.{view_length, view_part, length-bits_of}
use Rattle.bitmap.proofs.bits.Bits.slice.Goals as goal

pub overflow_add-result : goal.overflow_add-result
overflow_add-result c =
    let long = view_length c.self.inside.bytes c.self.inside.first c.self.inside.len c.args.self.now c.self.view_is in
    record { fits = omega (arith, long, c.self.invariant.small) }

pub invariant_of-result : goal.invariant_of-result
invariant_of-result c =
    let long = view_length c.self.inside.bytes c.self.inside.first c.self.inside.len c.args.self.now c.self.view_is in
    record { within = omega (arith, long, c.self.invariant.within, ap length c.in_ok-clone.ensures.cases); small = omega (arith, long, c.self.invariant.small) }

pub returns-clause-value : goal.returns-clause-value
returns-clause-value c =
    ap (λ (bytes : List ℕ). bits_of bytes (c.self.inside.first + c.args.from) (c.args.to - c.args.from)) c.in_ok-clone.ensures.cases
    ∙ view_part c.self.inside.bytes c.self.inside.first c.self.inside.len c.args.from (c.args.to - c.args.from) c.args.self.now c.self.view_is (omega arith)

pub returns-clause-long : goal.returns-clause-long
returns-clause-long c = length-bits_of c.in_ok-clone.field-0 (c.self.inside.first + c.args.from) (c.args.to - c.args.from)
