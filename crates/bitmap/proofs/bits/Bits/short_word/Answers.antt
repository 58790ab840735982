use Rattle.std.proofs.Common.{◌∙◌, ◌+◌, ap, length, arith, List, ℕ}
use Rattle.std.specs.Simd.Lanes.{mask_l}
use Rattle.bitmap.specs.Bits.{bits_of}
use Rattle.bitmap.proofs.Masks.{view_length, view_part}
use Rattle.bitmap.proofs.bits.Bits.short_word.Goals as goal

pub overflow_add-self-inside : goal.overflow_add-self-inside
overflow_add-self-inside c =
    let long = view_length c.self.inside.bytes c.self.inside.first c.self.inside.len c.args.self.now c.self.view_is in
    record { fits = omega (arith, long, c.self.invariant.small) }

pub short_word-requires-clause-room : goal.short_word-requires-clause-room
short_word-requires-clause-room c =
    let long = view_length c.self.inside.bytes c.self.inside.first c.self.inside.len c.args.self.now c.self.view_is in
    record { within = omega (arith, long, c.self.invariant.within, ap length c.as_slice.ensures); small = omega (arith, long, c.self.invariant.small) }

pub returns : goal.returns
returns c =
    c.short_word.ensures
    ∙ ap (λ (bytes : List ℕ). mask_l (bits_of bytes (c.self.inside.first + c.args.from) c.args.len)) c.as_slice.ensures
    ∙ ap mask_l (view_part c.self.inside.bytes c.self.inside.first c.self.inside.len c.args.from c.args.len c.args.self.now c.self.view_is c.requires.within)
