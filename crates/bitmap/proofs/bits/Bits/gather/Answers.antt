use Rattle.std.proofs.Common.{◌≡◌, ◌∙◌, ◌+◌, ◌<◌, ℕ, false, List, Bool, get_or, map, sym, ap, length, arith}
use Rattle.bitmap.specs.Bits.{bit_of, bits_of}
use Rattle.bitmap.proofs.Masks.{view_length, get_or-bits_of}
use Rattle.bitmap.proofs.Places.{maps_same}
use Rattle.bitmap.proofs.bits.Bits.gather.Goals as goal

pub overflow_add-self-inside : goal.overflow_add-self-inside
overflow_add-self-inside c =
    let long = view_length c.self.inside.bytes c.self.inside.first c.self.inside.len c.args.self.now c.self.view_is in
    record { fits = omega (arith, long, c.self.invariant.small) }

pub gather_bits-requires-clause-within : goal.gather_bits-requires-clause-within
gather_bits-requires-clause-within c k low =
    let long = view_length c.self.inside.bytes c.self.inside.first c.self.inside.len c.args.self.now c.self.view_is in
    omega (arith, long, c.self.invariant.within, ap length c.as_slice.ensures, c.requires.within k low)

pub gather_bits-requires-clause-small : goal.gather_bits-requires-clause-small
gather_bits-requires-clause-small c k low =
    let long = view_length c.self.inside.bytes c.self.inside.first c.self.inside.len c.args.self.now c.self.view_is in
    omega (arith, long, c.self.invariant.small, c.requires.within k low)

pub returns-clause-value : goal.returns-clause-value
returns-clause-value c =
    let places = c.args.places.now in
    let bytes = c.self.inside.bytes in
    let first = c.self.inside.first in
    let len = c.self.inside.len in
    let long = view_length bytes first len c.args.self.now c.self.view_is in
    ap (λ (made : List ℕ). bits_of made 0 (length places)) c.in_ok-from_vec.ensures.ok
    ∙ c.in_ok-made.ensures.bits
    ∙ ap (λ (read : List ℕ). map (λ place. bit_of read (first + c.args.first + place)) places) c.as_slice.ensures
    ∙ maps_same (λ place. bit_of bytes (first + c.args.first + place)) (λ place. get_or c.args.self.now (c.args.first + place) false) places
    (λ k low.
    let at = c.args.first + get_or places k 0 in
    let within : at < len = omega (arith, long, c.requires.within k low) in
    let e : first + c.args.first + get_or places k 0 ≡ first + at = omega arith in
    ap (bit_of bytes) e ∙ sym (get_or-bits_of bytes first len at false within) ∙ ap (λ (bits : List Bool). get_or bits at false) c.self.view_is)
