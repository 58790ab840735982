-- Inside: the columns of the batches that a stream and rows hold.
use Rattle.std.specs.Prelude.{◌≡◌, true, List, [], ◌∷◌, All, Option, Some, None}
use Rattle.arrow_types.specs.declared.schema.Schema.{Schema}
use Rattle.arrays.specs.Batch.{BatchAt}
use Rattle.arrays.specs.TypedLayouts.{AreOfTypes}
use Rattle.ipc_batch.specs.State.{Known, State}
use Rattle.ipc_batch.specs.SaidRows.{HasColumns}
use Rattle.table_versions.specs.Table.{Table, same_fields}
use Rattle.flight_client.specs.Stream.{StreamAt}

-- each batch has a column for each field of the schema that came, of its type
abbrev pub AreTyped : State → List BatchAt → Type 0
AreTyped state batches = All (λ batch. HasColumns (Some batch) state) batches

-- each batch has a column for each field of this schema, of its type
abbrev pub HaveColumns : Schema → List BatchAt → Type 0
HaveColumns schema batches =
    All (λ (batch : BatchAt). AreOfTypes schema.fields batch.columns) batches

-- the schema of a stream came, and has the columns of this one
abbrev pub HasSchema : Schema → StreamAt → Type 0
HasSchema schema stream =
    (known : Known) × (stream.state ≡ Some known)
    × (same_fields schema.fields known.schema.fields ≡ true)

-- where there are rows already, a stream has their columns
abbrev pub FitsRows : Option Table → StreamAt → Type 0
FitsRows None stream = Unit {0}
FitsRows (Some table) stream = HasSchema table.schema stream

-- so has each of these streams; and where there are none, each has those of the first
abbrev pub FitRows : Option Table → List StreamAt → Type 0
FitRows (Some table) streams = All (HasSchema table.schema) streams
FitRows None [] = Unit {0}
FitRows None (first ∷ others) =
    (known : Known) × (first.state ≡ Some known) × All (HasSchema known.schema) others
