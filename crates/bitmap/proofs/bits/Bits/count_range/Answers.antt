use Rattle.std.proofs.Common.{◌∙◌, ◌+◌, ap, length, arith, List, ℕ, Bool, count_by}
use Rattle.bitmap.specs.Bits.{bits_of}
use Rattle.bitmap.proofs.Masks.{view_length, view_part}
use Rattle.bitmap.proofs.bits.Bits.count_range.Goals as goal

pub overflow_add-self-inside : goal.overflow_add-self-inside
overflow_add-self-inside c =
    let long = view_length c.self.inside.bytes c.self.inside.first c.self.inside.len c.args.self.now c.self.view_is in
    record { fits = omega (arith, long, c.self.invariant.small) }

pub count_bits-requires : goal.count_bits-requires
count_bits-requires c =
    let long = view_length c.self.inside.bytes c.self.inside.first c.self.inside.len c.args.self.now c.self.view_is in
    record { within = omega (arith, long, c.self.invariant.within, ap length c.as_slice.ensures); small = omega (arith, long, c.self.invariant.small) }

pub returns : goal.returns
returns c =
    c.count_bits.ensures
    ∙ ap (λ (bytes : List ℕ). count_by (λ (bit : Bool). bit) (bits_of bytes (c.self.inside.first + c.args.from) c.args.len)) c.as_slice.ensures
    ∙ ap (count_by (λ (bit : Bool). bit)) (view_part c.self.inside.bytes c.self.inside.first c.self.inside.len c.args.from c.args.len c.args.self.now c.self.view_is c.requires)
