use Rattle.std.proofs.Common.{sym, ◌∙◌}
use Rattle.hash_join.proofs.Repeating.{same_joined}
use Rattle.hash_join.proofs.rights.Rights.is_repeat.Goals as goal

pub returns-clause-same : goal.returns-clause-same
returns-clause-same c =
    λ told. same_joined c.args.self.now c.args.number c.args.other (sym c.keys_join.ensures.joins ∙ told)
