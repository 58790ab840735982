use Rattle.std.proofs.Common.{sym, subst, IfOk, IfSome}
use Rattle.std.proofs.Common.{◌≡◌}
use Rattle.scan_base.specs.declared.value.ValueRef.{ValueRef}
use Rattle.scan_base.specs.Comparison.{compared}
use Rattle.scan_base.specs.Value.{value_of}
use Rattle.kernels.specs.Parts.{said_of}
use Rattle.kernels.proofs.compare.part_by_words.Goals as goal

pub returns-in-Null : goal.returns-in-Null
returns-in-Null c =
    subst (λ (v : ValueRef). IfOk c.nulls_compared.result (λ found. IfSome found (λ mask. mask ≡ said_of (λ value. compared c.args.comparison value (value_of v)) c.args.part.now)))
    (sym c.in-Null.is) (c.nulls_compared.ensures c.args.comparison)
