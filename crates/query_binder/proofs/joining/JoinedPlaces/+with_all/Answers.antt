use Rattle.std.proofs.Common.{◌≡◌, ◌++◌, ◌-◌, refl, take, drop, length}
use Rattle.std.proofs.lemmas.Result.{err_from_is_err_and}
use Rattle.query_binder.specs.declared.joining.JoinedPlaces.{JoinedPlaces}
use Rattle.query_binder.specs.NameRules.{equality_fault}
use Rattle.typed_plan.specs.Faults.{◌then◌, first_in}
use Rattle.query_binder.specs.PlaceTables.{columns_over, joined_over, joins_fault_over, scope_over, tree_over}
use Rattle.typed_plan.specs.View.{tree_of}
use Rattle.query_binder.proofs.Outcomes.{binds_then, fails_then}
use Rattle.query_binder.proofs.Over.{split}
use Rattle.query_binder.proofs.joining.JoinedPlaces.+with_all.Goals as goal

pub returns-in_err-with-in-len1-up-tables-clause-bound : goal.returns-in_err-with-in-len1-up-tables-clause-bound
returns-in_err-with-in-len1-up-tables-clause-bound t c =
    let joins = split c.args.joins.now c.join-item.result c.in-len1-up.len_at_least c.join-item.is in
    let tables = split c.args.tables.now c.table-item.result c.in-len1-up-tables.len_at_least c.table-item.is in
    let p = err_from_is_err_and c.from_residual.result c.from_residual.ensures.1 in
    rw (joins, tables, p.1, p.2) (λ apart. fails_then _ _ _ _ refl c.in_err-with-in-len1-up-tables.ensures.bound apart)

pub returns-in_ok-with-in-len1-up-tables-clause-bound : goal.returns-in_ok-with-in-len1-up-tables-clause-bound
returns-in_ok-with-in-len1-up-tables-clause-bound t c =
    let joins = split c.args.joins.now c.join-item.result c.in-len1-up.len_at_least c.join-item.is in
    let tables = split c.args.tables.now c.table-item.result c.in-len1-up-tables.len_at_least c.table-item.is in
    let here = c.in_ok-with-in-len1-up-tables.ensures.bound in
    let rest = rw (here.1.0, here.1.1) at c.with_all.ensures.bound in
    let scope = c.args.self.scope in
    let tree = tree_of c.args.self.tree in
    let wide = scope ++ columns_over c.join-item.result.place c.table-item.result in
    let first = first_in (equality_fault (length scope) wide) c.join-item.result.on in
    let left_joins = take (length c.args.joins.now - 1) (drop 1 c.args.joins.now) in
    let left_tables = take (length c.args.tables.now - 1) (drop 1 c.args.tables.now) in
    let second = joins_fault_over wide left_joins left_tables in
    let bound = λ (joined : JoinedPlaces). (joined.scope ≡ scope_over wide left_joins left_tables)
    × (tree_of joined.tree
    ≡ tree_over wide (joined_over scope tree c.join-item.result c.table-item.result) left_joins left_tables) in
    rw (joins, tables)
    (binds_then first second (first then second) bound bound c.with_all.result refl here.0 (λ x is. is) rest)
