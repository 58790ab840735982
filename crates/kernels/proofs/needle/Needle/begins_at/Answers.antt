use Rattle.std.proofs.Common.{◌+◌, ◌==◌, ℕ, List, ap, ◌∙◌, take, arith}
use Rattle.std.specs.List.{slice_range}
use Rattle.std.specs.Str.{bytes_eq}
use Rattle.std.specs.Int.Bits.{bit_and}
use Rattle.kernels.specs.Needles.{front_len}
use Rattle.kernels.proofs.FrontBytes.{front_same}
use Rattle.kernels.proofs.needle.Needle.begins_at.Goals as goal

pub returns : goal.returns
returns c =
    let text = c.self.inside.text.now in
    let bytes = c.args.bytes.now in
    let at = c.args.at in
    ap (λ (n : ℕ). bit_and n c.self.inside.mask == c.self.inside.front) c.eight_bytes.ensures
    ∙ front_same text bytes c.self.inside.front c.self.inside.mask at c.self.invariant (λ k. omega (arith, c.type_inv.bytes k)) c.requires
    ∙ ap (λ (t : List ℕ). bytes_eq (slice_range bytes at (at + front_len t)) (take (front_len t) t)) c.self.view_is
