use Rattle.bitmap.proofs.Masks.{length-bits_of}
use Rattle.bitmap.proofs.bits.Bits.new.Goals as goal

pub returns-clause-long : goal.returns-clause-long
returns-clause-long c = length-bits_of c.args.bytes c.args.first_bit c.args.len
