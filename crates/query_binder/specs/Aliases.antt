-- What a query's aliases are where it was parsed.
use Rattle.std.specs.Prelude.{◌≤◌, length, Option, Some, None, All}
use Rattle.arrow_types.specs.Schema.{IsName}
use Rattle.sql_query.specs.declared.query.Select.{Select}
use Rattle.sql_query.specs.declared.query.Select.TheVariants.{All as AllColumns, List as Items}
use Rattle.table_versions.specs.Table.{Name}

-- a name, where there is one
abbrev pub IsNameIfThere : Option Name → Type 0
IsNameIfThere None = Unit {0}
IsNameIfThere (Some name) = IsName name

-- a list has an item, and each alias is a name: UTF-8 of 1 to 64 bytes
abbrev pub HasNames : Select → Type 0
HasNames AllColumns = Unit {0}
HasNames (Items items) = (1 ≤ length items) × All (λ item. IsNameIfThere item.alias) items
