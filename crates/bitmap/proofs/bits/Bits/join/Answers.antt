use Rattle.std.proofs.Common.{◌≡◌, ◌∙◌, ap, arith, length, sym, List, ℕ, Bool}
use Rattle.std.specs.Simd.Lanes.{zip2}
use Rattle.bitmap.specs.Bits.{bits_of}
use Rattle.bitmap.specs.inside.JoinedBits.{joined}
use Rattle.bitmap.proofs.Masks.{length-bits_of}
use Rattle.bitmap.proofs.bits.Bits.join.Goals as goal

pub join_bits-requires-clause-right : goal.join_bits-requires-clause-right
join_bits-requires-clause-right c =
    let a = length-bits_of c.self.inside.bytes c.self.inside.first c.self.inside.len in
    let b = length-bits_of c.other.inside.bytes c.other.inside.first c.other.inside.len in
    let e : c.self.inside.len ≡ c.other.inside.len = sym a ∙ ap length c.self.view_is ∙ c.requires ∙ sym (ap length c.other.view_is) ∙ b in
    record { within = omega (arith, e, c.other.invariant.within, ap length c.as_slice-right.ensures); small = omega (arith, e, c.other.invariant.small) }

pub returns-clause-value : goal.returns-clause-value
returns-clause-value c =
    let f = joined c.args.operation in
    let a = length-bits_of c.self.inside.bytes c.self.inside.first c.self.inside.len in
    let b = length-bits_of c.other.inside.bytes c.other.inside.first c.other.inside.len in
    let e : c.self.inside.len ≡ c.other.inside.len = sym a ∙ ap length c.self.view_is ∙ c.requires ∙ sym (ap length c.other.view_is) ∙ b in
    ap (λ (r : List ℕ). bits_of r 0 c.self.inside.len) (c.in_ok-freeze.ensures.ok ∙ c.from.ensures)
    ∙ c.in_ok-made.ensures.bits
    ∙ ap (λ (r : List ℕ). zip2 f (bits_of r c.self.inside.first c.self.inside.len) (bits_of c.as_slice-right.result.now c.other.inside.first c.self.inside.len)) c.as_slice-left.ensures
    ∙ ap (λ (r : List ℕ). zip2 f (bits_of c.self.inside.bytes c.self.inside.first c.self.inside.len) (bits_of r c.other.inside.first c.self.inside.len)) c.as_slice-right.ensures
    ∙ ap (λ (n : ℕ). zip2 f (bits_of c.self.inside.bytes c.self.inside.first c.self.inside.len) (bits_of c.other.inside.bytes c.other.inside.first n)) e
    ∙ ap (λ (r : List Bool). zip2 f r (bits_of c.other.inside.bytes c.other.inside.first c.other.inside.len)) c.self.view_is
    ∙ ap (λ (r : List Bool). zip2 f c.args.self.now r) c.other.view_is

pub returns-clause-long : goal.returns-clause-long
returns-clause-long c =
    let a = length-bits_of c.self.inside.bytes c.self.inside.first c.self.inside.len in
    length-bits_of c.in_ok-freeze.field-0 0 c.self.inside.len ∙ sym a ∙ ap length c.self.view_is
