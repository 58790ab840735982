use Rattle.std.proofs.Common.{◌-◌, ◌*◌, length, arith, refl}
use Rattle.dictionary_answers.proofs.Numbers.{numbers_put}
use Rattle.dictionary_answers.proofs.packed_numbers.put_number.Goals as goal

pub returns : goal.returns
returns c =
    numbers_put c.args.bytes.now c.write_u32.new.buf c.args.slot (length c.args.bytes.now - 4 * c.args.slot) c.args.number c.requires refl (omega arith) c.write_u32.ensures
