-- Inside: columns that are chosen by their numbers.
use Rattle.std.specs.Prelude.{ℕ, List, map, slice_index}
use Rattle.typed_plan.specs.declared.plan.Columns.{Columns}
use Rattle.typed_plan.specs.declared.plan.Columns.TheVariants.{All, These}

-- what stands at these places of a list of numbers
abbrev pub numbers_at : Columns → List ℕ → List ℕ
numbers_at All numbers = numbers
numbers_at (These places) numbers = map (slice_index numbers) places
