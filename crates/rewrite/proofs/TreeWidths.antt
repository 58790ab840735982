-- How many columns a tree gives, and a list apart.
use Rattle.std.proofs.Common.{◌≡◌, ℕ, ◌+◌, List, [], length, sym, ◌∙◌}
use Rattle.std.proofs.lemmas.List.{length-map, length-append}
use Rattle.std.proofs.lemmas.List.FromFn.{length-range_with_len}
use Rattle.arrow_types.specs.declared.schema.Schema.{Schema}
use Rattle.rewrite.specs.Places.{tree_width}
use Rattle.rewrite.specs.PrunedColumns.{numbers_of}
use Rattle.table_versions.specs.Table.{Name}
use Rattle.typed_plan.specs.declared.plan.Columns.{Columns}
use Rattle.typed_plan.specs.declared.plan.Columns.TheVariants.{All, These}
use Rattle.typed_plan.specs.declared.plan.JoinKey.{JoinKey}
use Rattle.typed_plan.specs.Plan.{Tree, scan, joined}
use Rattle.typed_plan.specs.TypedPlans.{tree_types, type_at, types_of}

pub all_width : (table : Name) (schema : Schema) → tree_width (scan table schema All) ≡ length schema.fields
all_width table schema = length-map schema.fields (λ field. field.data_type)

pub these_width : (table : Name) (schema : Schema) (numbers : List ℕ) → tree_width (scan table schema (These numbers)) ≡ length numbers
these_width table schema numbers = length-map numbers (type_at (types_of schema.fields))

pub scan_width : (table : Name) (schema : Schema) (columns : Columns) → length (numbers_of columns (length schema.fields)) ≡ tree_width (scan table schema columns)
scan_width table schema All = length-range_with_len 0 (length schema.fields) ∙ sym (all_width table schema)
scan_width table schema (These numbers) = sym (these_width table schema numbers)

pub joined_width : (left right : Tree) (on : List JoinKey) → tree_width (joined left right on) ≡ tree_width left + tree_width right
joined_width left right on = length-append (tree_types left) (tree_types right)
