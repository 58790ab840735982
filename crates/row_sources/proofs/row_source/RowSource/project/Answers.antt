use Rattle.std.proofs.Common.{◌≡◌, ℕ, length, sym, subst, true}
use Rattle.std.proofs.lemmas.List.{length-map}
use Rattle.typed_plan.specs.TypedPlans.{has_columns, type_at}
use Rattle.row_sources.specs.JoinedRows.{source_at}
use Rattle.row_sources.specs.RowSource.{SourceAt}
use Rattle.row_sources.proofs.row_source.RowSource.project.Goals as goal

-- there are as many types as columns
pub shown-requires-clause-there : goal.shown-requires-clause-there
shown-requires-clause-there c =
    let s = c.self.inside.sourced in
    let columns = c.args.columns.now in
    subst (λ (n : ℕ). has_columns n columns ≡ true) (length-map s.columns.items (type_at (source_at s.source).types))
    (subst (λ (source : SourceAt). has_columns (length source.rows.types) columns ≡ true) (sym c.self.view_is) c.requires)
