use Rattle.std.proofs.Common.{◌∙◌, ◌+◌, ◌<◌, ap, sym, length, arith, get_or, false}
use Rattle.bitmap.specs.Bits.{bit_of}
use Rattle.bitmap.proofs.Masks.{length-bits_of, get_or-bits_of}
use Rattle.bitmap.proofs.bits.Bits.get.Goals as goal

pub overflow_add-self-inside : goal.overflow_add-self-inside
overflow_add-self-inside c =
    let len = length-bits_of c.self.inside.bytes c.self.inside.first c.self.inside.len in
    record { fits = omega (arith, len, ap length c.self.view_is, c.self.invariant.small) }

pub bit-requires : goal.bit-requires
bit-requires c =
    let len = length-bits_of c.self.inside.bytes c.self.inside.first c.self.inside.len in
    omega (arith, len, ap length c.self.view_is, c.self.invariant.within, ap length c.as_slice.ensures)

pub returns : goal.returns
returns c =
    let len = length-bits_of c.self.inside.bytes c.self.inside.first c.self.inside.len in
    let lt : c.args.place < c.self.inside.len = omega (arith, len, ap length c.self.view_is) in
    c.bit.ensures ∙ ap (λ b. bit_of b (c.self.inside.first + c.args.place)) c.as_slice.ensures
    ∙ sym (get_or-bits_of c.self.inside.bytes c.self.inside.first c.self.inside.len c.args.place false lt) ∙ ap (λ l. get_or l c.args.place false) c.self.view_is
