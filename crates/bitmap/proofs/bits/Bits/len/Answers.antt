use Rattle.std.proofs.Common.{◌∙◌, ap, sym, length}
use Rattle.bitmap.proofs.Masks.{length-bits_of}
use Rattle.bitmap.proofs.bits.Bits.len.Goals as goal

pub returns : goal.returns
returns c = sym (length-bits_of c.self.inside.bytes c.self.inside.first c.self.inside.len) ∙ ap length c.self.view_is
