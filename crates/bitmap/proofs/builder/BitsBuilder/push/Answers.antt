use Rattle.std.proofs.Common.{◌+◌, ◌*◌, ◌/◌, ◌%◌, ◌^◌, ◌++◌, ◌∷◌, [], ◌∙◌, ℕ, List, Bool, slice_set, ap, arith, refl}
use mir.Val.{bool_byte}
use Rattle.bitmap.specs.Bits.{bits_of}
use Rattle.bitmap.proofs.Packing.{new_byte, same_byte, byte_here, bit_fits, packed_new, packed_same}
use Rattle.bitmap.proofs.builder.BitsBuilder.push.Goals as goal

pub overflow_add-index_mut : goal.overflow_add-index_mut
overflow_add-index_mut c =
    record { fits = omega (arith, byte_here c.self.inside.bytes.items c.self.inside.len c.index_mut.result.now c.self.invariant c.if-shift-eq0.false c.index_mut.ensures.value, bit_fits c.self.inside.bytes.items c.self.inside.len c.args.bit c.self.invariant) }

pub invariant_of-self-then-shift-eq0 : goal.invariant_of-self-then-shift-eq0
invariant_of-self-then-shift-eq0 c =
    rw c.in_ok-push.ensures.items
    (packed_new c.self.inside.bytes.items c.self.inside.len c.in-Some.len (bool_byte c.args.bit) c.args.bit c.self.invariant c.in-Some.ensures.1 (omega (arith, c.in-Some.ensures.0, c.in-Some.ensures.1)) c.if-shift-eq0.true refl)

pub invariant_of-self : goal.invariant_of-self
invariant_of-self c = rw c.in_err-push.ensures.items c.self.invariant

pub invariant_of-self-2 : goal.invariant_of-self-2
invariant_of-self-2 c =
    packed_same c.self.inside.bytes.items c.self.inside.len c.in-Some.len (c.index_mut.result.now + bool_byte c.args.bit * 2 ^ (c.self.inside.len % 8) % 256) c.args.bit c.self.invariant c.in-Some.ensures.1
    (omega (arith, c.in-Some.ensures.0, c.in-Some.ensures.1)) c.if-shift-eq0.false (ap (λ (x : ℕ). x + bool_byte c.args.bit * 2 ^ (c.self.inside.len % 8) % 256) (byte_here c.self.inside.bytes.items c.self.inside.len c.index_mut.result.now c.self.invariant c.if-shift-eq0.false c.index_mut.ensures.value))

pub returns-clause-ok : goal.returns-clause-ok
returns-clause-ok c =
    let byte = c.index_mut.result.now + bool_byte c.args.bit * 2 ^ (c.self.inside.len % 8) % 256 in
    ap (bits_of (slice_set c.self.inside.bytes.items (c.self.inside.len / 8) byte) 0) c.in-Some.ensures.1
    ∙ same_byte c.self.inside.bytes.items c.self.inside.len byte c.args.bit c.self.invariant c.if-shift-eq0.false (ap (λ (x : ℕ). x + bool_byte c.args.bit * 2 ^ (c.self.inside.len % 8) % 256) (byte_here c.self.inside.bytes.items c.self.inside.len c.index_mut.result.now c.self.invariant c.if-shift-eq0.false c.index_mut.ensures.value))
    ∙ ap (λ (bits : List Bool). bits ++ c.args.bit ∷ []) c.self.view_is

pub returns-then-shift-eq0-clause-ok : goal.returns-then-shift-eq0-clause-ok
returns-then-shift-eq0-clause-ok c =
    ap (λ (bytes : List ℕ). bits_of bytes 0 c.in-Some.len) c.in_ok-push.ensures.items
    ∙ ap (bits_of (c.self.inside.bytes.items ++ bool_byte c.args.bit ∷ []) 0) c.in-Some.ensures.1
    ∙ new_byte c.self.inside.bytes.items c.self.inside.len (bool_byte c.args.bit) c.args.bit c.self.invariant c.if-shift-eq0.true refl
    ∙ ap (λ (bits : List Bool). bits ++ c.args.bit ∷ []) c.self.view_is
