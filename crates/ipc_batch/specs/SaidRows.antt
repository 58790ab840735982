-- What messages say, one after another: a schema, and then rows. `News` has what each of them says.
use Rattle.std.specs.Prelude.{◌≡◌, ◌≢◌, ℕ, List, [], ◌∷◌, ◌++◌, length, All, Option, Some, None}
use Rattle.std.specs.Prelude.{Result, Ok, Err}
use Rattle.scan_base.specs.declared.fault.Fault.{Fault}
use Rattle.scan_base.specs.declared.fault.Fault.TheVariants.{OutOfMemory}
use Rattle.scan_base.specs.declared.value.Value.{Value}
use Rattle.arrow_types.specs.declared.schema.Schema.{Schema}
use Rattle.arrays.specs.Batch.{BatchAt, rows_of}
use Rattle.arrays.specs.TypedLayouts.{AreOfTypes}
use Rattle.ipc_batch.specs.State.{Known, State}
pub use Rattle.ipc_batch.specs.News.{Sent, News, first_schema, first_glance, batch_glance}
pub use Rattle.ipc_batch.specs.News.{dictionary_glance, has_id, leads_to, kept_of, next_news}
pub use Rattle.ipc_batch.specs.News.{next_glance, news_in, glance_in}
unfoldable pub use Rattle.ipc_batch.specs.News.{schema_sent, batch_parts, batch_sent}
unfoldable pub use Rattle.ipc_batch.specs.News.{dictionary_sent, known_after, news_of, glance_of}

-- a row is a value for each field
abbrev pub Rows : Type 0
Rows = List (List Value)

-- the rows that a message adds
abbrev pub rows_in : Option BatchAt → Rows
rows_in None = []
rows_in (Some batch) = rows_of batch

-- after one state, the messages say these rows and leave that state after
abbrev pub Follows : State → List Sent → State → Rows → Type 0
Follows state [] end rows = (end ≡ state) × (rows ≡ [])
Follows state (sent ∷ more) end rows =
    (news : News) × (others : Rows) × (news_of state sent ≡ Ok news)
    × (rows ≡ rows_in news.batch ++ others) × Follows news.state more end others

-- the messages say this schema and these rows
abbrev pub Says : List Sent → Schema → Rows → Type 0
Says messages schema rows =
    (known : Known) × (known.schema ≡ schema) × Follows None messages (Some known) rows

-- What a reader answers is this news, and after a fault it is as before.
abbrev pub Answers : Result (Option BatchAt) Fault → State → Result News Fault → State → Type 0
Answers (Ok batch) old said new = said ≡ Ok (record { state = new; batch = batch })
Answers (Err fault) old said new = (fault ≢ OutOfMemory → said ≡ Err fault) × (new ≡ old)

-- what a reader answers is what the message says to it
abbrev pub Tells : Result (Option BatchAt) Fault → State → Sent → State → Type 0
Tells result old sent new = Answers result old (news_of old sent) new

-- a batch has a column for each field of the schema, of its type
abbrev pub HasColumns : Option BatchAt → State → Type 0
HasColumns None state = Unit {0}
HasColumns (Some batch) None = ⊥
HasColumns (Some batch) (Some known) = AreOfTypes known.schema.fields batch.columns

-- each row has so many values
abbrev pub AreWide : ℕ → Rows → Type 0
AreWide width rows = All (λ row. length row ≡ width) rows
