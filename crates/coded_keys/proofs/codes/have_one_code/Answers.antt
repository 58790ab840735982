use Rattle.coded_keys.proofs.SameCodes.{same_code}
use Rattle.coded_keys.proofs.codes.have_one_code.Goals as goal

pub returns : goal.returns
returns c =
    λ told. same_code c.args.column.now c.args.row c.args.other _ _ c.code_at.ensures c.code_at-2.ensures (c.are_one.ensures told)
