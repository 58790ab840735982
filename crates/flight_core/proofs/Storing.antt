-- What is read of payloads may be stored.
use Rattle.std.proofs.Common.{◌≡◌, List, [], ◌∷◌, ◌++◌, All, IfOk, Option, Some, None, Result, Ok, Err, append-nil}
use Rattle.std.specs.Option.{option_map}
use Rattle.std.proofs.lemmas.List.Elements.{All-cons, All-head, All-nil, All-push, All-tail, All-weaker}
use Rattle.scan_base.specs.declared.fault.Fault.{Fault}
use Rattle.arrow_types.specs.declared.schema.Schema.{Schema}
use Rattle.arrays.specs.Batch.{BatchAt}
use Rattle.arrays.specs.TypedLayouts.{AreOfTypes}
use Rattle.ipc_batch.specs.State.{Known, State}
use Rattle.ipc_batch.specs.SaidRows.{News, Sent, Tells, HasColumns, news_of}
use Rattle.ipc_batch.proofs.Messages.{Keeps, keeps}
use Rattle.flight_core.specs.StoredPayloads.{MayBeStored, batches_in}

-- ---- batches after a schema

-- those that stood after a schema stand after the same one
kept_columns : (known : Known) (news : News) (batch : BatchAt) → Keeps known news → HasColumns (Some batch) (Some known) → HasColumns (Some batch) news.state
kept_columns known news batch stays columns = rw (stays.state, stays.schema) columns

still_stored : (old : State) (sent : Sent) (batch : Option BatchAt) (new : State) → news_of old sent ≡ Ok (record { state = new; batch = batch })
    → (batches : List BatchAt) → MayBeStored old batches → MayBeStored new batches
unfolding MayBeStored
still_stored None sent batch new e batches before = All-weaker (λ (b : BatchAt). HasColumns (Some b) None) (λ (b : BatchAt). HasColumns (Some b) new) (λ b none. absurd none) batches before
still_stored (Some known) sent batch new e batches before =
    let news : News = record { state = new; batch = batch } in
    All-weaker (λ (b : BatchAt). HasColumns (Some b) (Some known)) (λ (b : BatchAt). HasColumns (Some b) new) (λ b columns. kept_columns known news b (keeps known sent news e) columns) batches before

one_more : (state : State) (batch : Option BatchAt) (batches : List BatchAt) → HasColumns batch state → MayBeStored state batches → MayBeStored state (batches ++ batches_in batch)
unfolding MayBeStored
one_more state None batches columns before = rw (append-nil batches) before
one_more state (Some batch) batches columns before = All-push (λ (b : BatchAt). HasColumns (Some b) state) batches batch before columns

-- what a message leaves after may be stored, with its batch after the others
pub read_storable : (result : Result (Option BatchAt) Fault) (old : State) (sent : Sent) (new : State) → Tells result old sent new → IfOk result (λ batch. HasColumns batch new)
    → (batches : List BatchAt) → MayBeStored old batches → IfOk result (λ batch. MayBeStored new (batches ++ batches_in batch))
read_storable (Ok batch) old sent new e columns batches before = one_more new batch batches columns (still_stored old sent batch new e batches before)
read_storable (Err fault) old sent new e columns batches before = tt

-- they are of the types of the schema that came
pub stored_typed : (state : State) (schema : Schema) (batches : List BatchAt) → Some schema ≡ option_map (λ (known : Known). known.schema) state → MayBeStored state batches
    → All (λ (batch : BatchAt). AreOfTypes schema.fields batch.columns) batches
unfolding MayBeStored
stored_typed None schema batches e stored = cc
stored_typed (Some known) schema batches e stored =
    let same : schema ≡ known.schema = cc in
    rw same stored

-- nothing was stored yet
pub none_stored : (state : State) → MayBeStored state []
unfolding MayBeStored
none_stored state = All-nil (λ (batch : BatchAt). HasColumns (Some batch) state)

-- and so were the first of batches
pub front_stored : (state : State) (batches more : List BatchAt) → MayBeStored state (batches ++ more) → MayBeStored state batches
unfolding MayBeStored
front_stored state [] more all = All-nil (λ (batch : BatchAt). HasColumns (Some batch) state)
front_stored state (first ∷ batches) more all =
    let fits = λ (batch : BatchAt). HasColumns (Some batch) state in
    All-cons fits first batches (All-head fits first (batches ++ more) all) (front_stored state batches more (All-tail fits first (batches ++ more) all))
