use Rattle.std.proofs.Common.{refl}
use Rattle.bitmap.specs.Bits.{bits_of}
use Rattle.bitmap.proofs.builder.BitsBuilder.with_capacity.Goals as goal

pub returns : goal.returns
unfolding bits_of
returns c = refl
