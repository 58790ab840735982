use Rattle.hash_join.proofs.Codes.{same_number}
use Rattle.hash_join.proofs.key_codes.have_one_number.Goals as goal

pub returns : goal.returns
returns c =
    λ told. same_number c.args.column.now c.args.row c.args.other c.number_at.result c.number_at-2.result c.number_at.ensures c.number_at-2.ensures
    (c.are_one.ensures told)
