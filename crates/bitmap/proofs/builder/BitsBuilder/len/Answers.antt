use Rattle.std.proofs.Common.{sym}
use Rattle.bitmap.proofs.Masks.{view_length}
use Rattle.bitmap.proofs.builder.BitsBuilder.len.Goals as goal

pub returns : goal.returns
returns c = sym (view_length c.self.inside.bytes.items 0 c.self.inside.len c.args.self.now c.self.view_is)
