use Rattle.std.proofs.Common.{sym, subst}
use Rattle.arrow_types.specs.Schema.{IsSchema}
use Rattle.sql_query.specs.Sentence.{sentence_of}
use Rattle.query_binder.specs.NameRules.{select_fault}
use Rattle.typed_plan.specs.Faults.{first_in, fault_in}
use Rattle.typed_plan.specs.Scope.{column_of}
use Rattle.typed_plan.proofs.TypedNames.{then_none}
use Rattle.query_binder.proofs.Written.{select_written}
use Rattle.query_binder.proofs.binding.bind_rest.Goals as goal

pub returns-clause-named : goal.returns-clause-named
returns-clause-named c written names =
    let query = sentence_of c.args.query.now in
    let scope = c.args.joined.scope in
    let here = c.in_ok-output.ensures in
    let parts = then_none (first_in (λ name. fault_in (column_of scope name)) query.group_by)
    (select_fault query scope query.select) here.0 in
    subst IsSchema (sym here.1.1) (select_written query scope query.select written parts.1 names)
