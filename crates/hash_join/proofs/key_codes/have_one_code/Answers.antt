use Rattle.hash_join.proofs.Codes.{same_code}
use Rattle.hash_join.proofs.key_codes.have_one_code.Goals as goal

pub returns : goal.returns
returns c =
    λ told. same_code c.args.column.now c.args.row c.args.other c.code_at.result c.code_at-2.result c.code_at.ensures c.code_at-2.ensures
    (c.are_one.ensures told)
