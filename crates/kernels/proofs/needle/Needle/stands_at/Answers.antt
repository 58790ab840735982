use Rattle.std.proofs.Common.{◌+◌, ◌&&◌, Bool, length, drop, ap, sym, ◌∙◌}
use Rattle.std.specs.List.{slice_range}
use Rattle.std.specs.Str.{bytes_eq}
use Rattle.kernels.specs.Needles.{front_len}
use Rattle.kernels.proofs.FrontBytes.{parts_same}
use Rattle.kernels.proofs.needle.Needle.stands_at.Goals as goal

pub returns-then-begins_at : goal.returns-then-begins_at
returns-then-begins_at c =
    let text = c.args.self.now in
    let bytes = c.args.bytes.now in
    let at = c.args.at in
    let rest : Bool = bytes_eq (slice_range bytes (at + front_len text) (at + length text)) (drop (front_len text) text) in
    c.goes_on_at.ensures ∙ ap (λ (b : Bool). b && rest) (sym c.if-begins_at.true ∙ c.begins_at.ensures) ∙ parts_same text bytes at c.requires
