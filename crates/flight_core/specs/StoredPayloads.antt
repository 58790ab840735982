-- Inside: what of payloads may be stored.
use Rattle.std.specs.Prelude.{All, List, [], ◌∷◌, Option, Some, None}
use Rattle.arrays.specs.Batch.{BatchAt}
use Rattle.ipc_batch.specs.State.{State}
use Rattle.ipc_batch.specs.SaidRows.{HasColumns}

-- the batch of a message, if it has one
abbrev pub batches_in : Option BatchAt → List BatchAt
batches_in None = []
batches_in (Some batch) = batch ∷ []

-- the batches stand after a schema, and have a column for each of its fields, of its type
unfoldable pub MayBeStored : State → List BatchAt → Type 0
MayBeStored state batches = All (λ batch. HasColumns (Some batch) state) batches
