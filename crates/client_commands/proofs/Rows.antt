-- Streams that are written as they come.
use Rattle.std.proofs.Common.{◌≡◌, ◌&&◌, ◌⊎◌, ◌+◌, ◌<◌, ℕ, Bool, true, false, List, [], ◌∷◌, ◌++◌, length, Option, Some, None, Result, Ok, Err, refl, sym, ap, subst, ◌∙◌, inl, inr, append-nil, append_assoc, map, take, drop, get_or}
use Rattle.std.specs.List.{list_all}
use Rattle.std.proofs.lemmas.Grind.{flat_map-append}
use Rattle.std.proofs.lemmas.List.Elements.{All-cons, All-head, All-nil}
use Rattle.scan_base.specs.declared.fault.Fault.{Fault}
use Rattle.scan_base.specs.declared.fault.Fault.TheVariants.{BadBatch, LimitReached, OutOfMemory, SchemaMismatch, Transport}
use Rattle.scan_base.specs.Reading.{◌>>=◌}
use Rattle.scan_base.specs.Lists.{each}
use Rattle.arrow_types.specs.declared.schema.Schema.{Schema}
use Rattle.arrays.specs.Batch.{BatchAt, rows_of}
use Rattle.arrays.specs.TypedLayouts.{AreOfTypes}
use Rattle.ipc_batch.specs.State.{Known, State}
use Rattle.ipc_batch.specs.SaidRows.{HasColumns, Rows}
use Rattle.ipc_batch.proofs.Lengths.{fine, both}
use Rattle.table_versions.specs.Table.{Table, same_fields}
use Rattle.table_versions.proofs.Alike.{typed_alike}
use Rattle.flight_proto.specs.FlightInfo.{EndpointSaid}
use Rattle.flight_info.specs.Payloads.{Payload}
use Rattle.flight_client.specs.Join.{joined, one_schema, schema_of_all}
use Rattle.flight_client.specs.Stream.{StreamAt, schema_said}
use Rattle.flight_client.proofs.Arrivals.{schema_there}
use Rattle.flight_client.proofs.Together.{fields_same}
use Rattle.grpc_frame.specs.Ends.{CanFail}
use Rattle.row_stream.specs.Stream.{numbered_schema, CountsTransport, CountsWrites, HasShortRows}
use Rattle.command_line.specs.declared.request.Format.{Format}
use Rattle.client_calls.specs.declared.failure.Failure.{Failure}
use Rattle.client_calls.specs.declared.failure.Failure.TheVariants.{Found}
use Rattle.client_calls.specs.Outcome.{Line}
use Rattle.client_calls.specs.Taking.{FetchAt, FetchGives, HasNoSchema, IsBegun, IsFetchReader, KeepsSchema, ended, with_batch}
use Rattle.command_ends.specs.Printing.{Said}
use Rattle.client_commands.specs.Fetching.{FetchesEach, FetchesOne, FetchStops}
use Rattle.client_commands.specs.Lines.{CanCount}
use Rattle.client_commands.specs.Streaming.{ComeSome, SaysFirst, SaysSchema, Stops, WhyNoMore, WritesBroken, WritesSome, WritesUpTo, rows_held}
use Rattle.client_commands.specs.Formats.{BreaksRows, WritesFront}
use Rattle.client_commands.specs.inside.Writers.{BeginsRows, Breaks, HasTakenRows, IsCauseIn, SendsRows, WriterAt, written_schema}
use Rattle.client_commands.specs.inside.OneStream.{BreaksAtFailure, EndsAt, FitsSchema, HasCome, IsUnderWay, StopsWithin, WhyUnwritten}
use Rattle.client_commands.specs.inside.Runs.{AreSent, ChecksColumns, Follows, HaveCome, IsOpen, Opens, WritesNext, HandoverAt, OpenAt, StopsInRun}
use Rattle.client_commands.proofs.Fetched.{front_more, quiet, split_at}
use Rattle.client_commands.proofs.Formats.{breaks_before, same_written}

rows_more : (streams : List StreamAt) (stream : StreamAt) → rows_held (streams ++ stream ∷ []) ≡ rows_held streams ++ stream.rows
rows_more streams stream =
    flat_map-append (λ (s : StreamAt). s.rows) streams (stream ∷ []) ∙ ap (λ (rows : Rows). rows_held streams ++ rows) (append-nil stream.rows)

pub first_stays : (streams : List StreamAt) (stream : StreamAt) (schema : Schema) → SaysFirst streams schema → SaysFirst (streams ++ stream ∷ []) schema
first_stays [] stream schema says = absurd says
first_stays (s ∷ ss) stream schema says = says

-- after streams that came whole, more came
come_behind : (front rest : List EndpointSaid) (streams more : List StreamAt) (old middle new : Line) → FetchesEach front streams old middle → ComeSome rest more middle new
    → ComeSome (front ++ rest) (streams ++ more) old new
come_behind [] rest [] more old middle new same come = subst (λ (from : Line). ComeSome rest more from new) same come
come_behind [] rest (s ∷ ss) more old middle new same come = absurd same
come_behind (e ∷ es) rest [] more old middle new same come = absurd same
come_behind (e ∷ es) rest (s ∷ ss) more old middle new fetched come = inr (fetched.0, fetched.1, come_behind es rest ss more fetched.0 middle new fetched.2 come)

come_none : (rest : List EndpointSaid) (line : Line) → ComeSome rest [] line line
come_none [] line = refl
come_none (e ∷ es) line = refl

-- no read and no write failed
pub quiet_each : (endpoints : List EndpointSaid) (streams : List StreamAt) (old new : Line) → FetchesEach endpoints streams old new
    → (new.incoming.failed ≡ old.incoming.failed) × (new.outgoing.failed ≡ old.outgoing.failed)
quiet_each [] [] old new same = (ap (λ (l : Line). l.incoming.failed) same, ap (λ (l : Line). l.outgoing.failed) same)
quiet_each [] (s ∷ ss) old new same = absurd same
quiet_each (e ∷ es) [] old new same = absurd same
quiet_each (e ∷ es) (s ∷ ss) old new fetched =
    let one = quiet e s old fetched.0 fetched.1 in
    let others = quiet_each es ss fetched.0 new fetched.2 in
    (others.0 ∙ one.0, others.1 ∙ one.1)

keeps_said : (stream : StreamAt) (before after : State) (batch : Option BatchAt) (own : Schema) → stream.state ≡ before → KeepsSchema before after → SaysSchema stream own → SaysSchema (with_batch stream after batch) own
keeps_said stream before after None own is kept says = let k : KeepsSchema (Some says.0) after = rw (← is, says.1) at kept in (k.0, k.1, k.2 ∙ says.2)
keeps_said stream before after (Some batch) own is kept says = let k : KeepsSchema (Some says.0) after = rw (← is, says.1) at kept in (k.0, k.1, k.2 ∙ says.2)

-- and so has what comes next
pub fits_next : (before after : State) (written next : Schema) → FitsSchema before written → KeepsSchema before after → next ≡ written → FitsSchema after next
fits_next before after written next fits kept same =
    let k : KeepsSchema (Some fits.0) after = rw fits.1 at kept in
    (k.0, k.1, rw (same, k.2) fits.2)

-- its batches have a column for each field of that
pub typed_by : (state : State) (written : Schema) (batch : BatchAt) → FitsSchema state written → HasColumns (Some batch) state → AreOfTypes written.fields batch.columns
typed_by state written batch fits has =
    let own = (fits.0).schema in
    let typed : AreOfTypes own.fields batch.columns = rw fits.1 at has in
    All-head (λ (b : BatchAt). AreOfTypes written.fields b.columns) batch []
    (typed_alike written.fields own.fields (batch ∷ []) fits.2 (All-cons (λ (b : BatchAt). AreOfTypes own.fields b.columns) batch [] typed (All-nil (λ (b : BatchAt). AreOfTypes own.fields b.columns))))

-- ---- a stream more joins

next_schema : (stream : StreamAt) (streams : List StreamAt) (schema : Schema) (schemas : List Schema) → schema_said stream ≡ Ok schema → each schema_said streams ≡ Ok schemas
    → each schema_said (stream ∷ streams) ≡ Ok (schema ∷ schemas)
next_schema stream streams schema schemas one all = rw (one, all) refl

schemas_more : (streams : List StreamAt) (stream : StreamAt) (schemas : List Schema) (own : Schema) → each schema_said streams ≡ Ok schemas → schema_said stream ≡ Ok own
    → each schema_said (streams ++ stream ∷ []) ≡ Ok (schemas ++ own ∷ [])
schemas_more [] stream schemas own all one =
    let none : [] ≡ schemas = cc in
    rw (one, ← none) refl
schemas_more (s ∷ ss) stream schemas own all one =
    let front = both (schema_said s) (λ (y : Schema). (each schema_said ss >>= λ ys. fine (y ∷ ys))) schemas all in
    let rest = both (each schema_said ss) (λ (ys : List Schema). fine (front.0 ∷ ys)) schemas front.2 in
    let is : front.0 ∷ rest.0 ≡ schemas = let last = rest.2 in cc in
    let more = next_schema s (ss ++ stream ∷ []) front.0 (rest.0 ++ own ∷ []) front.1 (schemas_more ss stream rest.0 own rest.1 one) in
    subst (λ (l : List Schema). each schema_said (s ∷ (ss ++ stream ∷ [])) ≡ fine (l ++ own ∷ [])) is more

-- whether a schema has the columns of the first
abbrev alike : Schema → Schema → Bool
alike first other = same_fields first.fields other.fields

all_more : (p : Schema → Bool) (schemas : List Schema) (own : Schema) → list_all p schemas ≡ true → p own ≡ true → list_all p (schemas ++ own ∷ []) ≡ true
all_more p [] own all one = rw one refl
all_more p (s ∷ ss) own all one = by (p s) refl all (λ rest. all_more p ss own rest one)
  where
    by : (b : Bool) → p s ≡ b → (b && list_all p ss) ≡ true → (list_all p ss ≡ true → list_all p (ss ++ own ∷ []) ≡ true) → (p s && list_all p (ss ++ own ∷ [])) ≡ true
    by true is rest more = rw is (more rest)
    by false is rest more = absurd cc

one_more : (schemas : List Schema) (schema own : Schema) → one_schema schemas ≡ Ok schema → alike schema own ≡ true → one_schema (schemas ++ own ∷ []) ≡ Ok schema
one_more [] schema own one same = let no : Err BadBatch ≡ Ok schema = one in absurd cc
one_more (first ∷ others) schema own one same = by (list_all (alike first) others) refl one
  where
    by : (b : Bool) → list_all (alike first) others ≡ b → one_schema (first ∷ others) ≡ Ok schema → one_schema (first ∷ (others ++ own ∷ [])) ≡ Ok schema
    by true is e =
        let is_first : first ≡ schema = let f = rw is at e in cc in
        let more = all_more (alike first) others own is (rw is_first same) in
        rw (more, is_first) refl
    by false is e = let no : Err SchemaMismatch ≡ Ok schema = rw is at e in absurd cc

-- the rows of streams after a schema
abbrev held_table : Schema → List StreamAt → Table
held_table schema streams = record { schema = schema; rows = rows_held streams }

joined_by : (streams : List StreamAt) (schema : Schema) → schema_of_all streams ≡ Ok schema → joined streams ≡ Ok (held_table schema streams)
joined_by streams schema one = rw one refl

one_of : (streams : List StreamAt) (schema : Schema) (rows : Rows) → joined streams ≡ Ok (record { schema = schema; rows = rows }) → schema_of_all streams ≡ Ok schema
one_of streams schema rows e =
    let all = both (schema_of_all streams) (λ (found : Schema). fine (held_table found streams)) (record { schema = schema; rows = rows }) e in
    let same : held_table all.0 streams ≡ record { schema = schema; rows = rows } = let last = all.2 in cc in
    all.1 ∙ ap (λ (table : Table). fine table.schema) same

pub joined_more : (streams : List StreamAt) (stream : StreamAt) (schema own : Schema) → joined streams ≡ Ok (held_table schema streams) → schema_said stream ≡ Ok own → same_fields schema.fields own.fields ≡ true
    → joined (streams ++ stream ∷ []) ≡ Ok (held_table schema (streams ++ stream ∷ []))
joined_more streams stream schema own join says same =
    let all = both (each schema_said streams) one_schema schema (one_of streams schema (rows_held streams) join) in
    let schemas = schemas_more streams stream all.0 own all.1 says in
    joined_by (streams ++ stream ∷ []) schema (rw schemas (one_more all.0 schema own all.2 same))

pub joined_first : (stream : StreamAt) (schema : Schema) → schema_said stream ≡ Ok schema → joined (stream ∷ []) ≡ Ok (held_table schema (stream ∷ []))
joined_first stream schema says = joined_by (stream ∷ []) schema (rw says refl)

says_ended : (stream : StreamAt) (own : Schema) → stream.end ≡ Some (Ok tt) → SaysSchema stream own → schema_said stream ≡ Ok own
says_ended stream own end says = schema_there stream says.0 end says.1 ∙ ap (λ (s : Schema). fine s) says.2

-- the first stream's schema
first_says : (before : List StreamAt) (schema own : Schema) → Follows before schema own → (stream : StreamAt) → SaysSchema stream own → SaysFirst (before ++ stream ∷ []) schema
first_says [] schema own same stream says = subst (SaysSchema stream) same says
first_says (s ∷ ss) schema own follows stream says = follows.0

has_same : (before : List StreamAt) (schema own : Schema) → Follows before schema own → same_fields schema.fields own.fields ≡ true
has_same [] schema own same = subst (λ (s : Schema). same_fields schema.fields s.fields ≡ true) (sym same) (fields_same schema.fields)
has_same (s ∷ ss) schema own follows = follows.2

joins : (before : List StreamAt) (schema own : Schema) → Follows before schema own → (stream : StreamAt) → schema_said stream ≡ Ok own → joined (before ++ stream ∷ []) ≡ Ok (held_table schema (before ++ stream ∷ []))
joins [] schema own same stream says = joined_first stream schema (says ∙ ap (λ (s : Schema). fine s) same)
joins (s ∷ ss) schema own follows stream says = joined_more (s ∷ ss) stream schema own follows.1 says follows.2

-- no read and no write of that failed
pub begun_counts : (ticket : Payload) (state : State) (old new : Line) → IsBegun ticket state old new → CanCount old → CanCount new
begun_counts ticket state old new it can =
    let taken = it.fetching.2 in
    (subst CanFail (sym taken.quiet) can.0, subst CanFail (sym taken.written.quiet) can.1)

same_known : (state : State) (a b : Known) → state ≡ Some a → state ≡ Some b → a ≡ b
same_known state a b p q = cc

-- the columns of a stream that is begun, as they are compared
of_known : (ticket : Payload) (fetch : FetchAt) (line : Line) (written : Schema) (same : Bool) (it : IsBegun ticket fetch.state line fetch.line)
    → (known : Known) × (fetch.state ≡ Some known) × (same_fields written.fields known.schema.fields ≡ same) → same_fields written.fields it.known.schema.fields ≡ same
of_known ticket fetch line written same it (known, is, fits) =
    subst (λ (k : Known). same_fields written.fields k.schema.fields ≡ same) (same_known fetch.state known it.known is it.has_schema) fits

-- where no byte was written, and no write failed, nothing was said
same_said : (a b : Said) → b.bytes ≡ a.bytes → b.failures ≡ a.failures → b ≡ a
same_said a b bytes failures =
    ap (λ (l : Option (List ℕ)). let said : Said = record { bytes = l; failures = b.failures } in said) bytes
    ∙ ap (λ (n : ℕ). let said : Said = record { bytes = a.bytes; failures = n } in said) failures

fetches_both : (front rest : List EndpointSaid) (streams more : List StreamAt) (old middle new : Line) → FetchesEach front streams old middle → FetchesEach rest more middle new
    → FetchesEach (front ++ rest) (streams ++ more) old new
fetches_both [] rest [] more old middle new same fetched = subst (λ (from : Line). FetchesEach rest more from new) same fetched
fetches_both [] rest (s ∷ ss) more old middle new same fetched = absurd same
fetches_both (e ∷ es) rest [] more old middle new same fetched = absurd same
fetches_both (e ∷ es) rest (s ∷ ss) more old middle new first fetched = (first.0, first.1, fetches_both es rest ss more first.0 middle new first.2 fetched)

fetch_stops_behind : (front rest : List EndpointSaid) (streams : List StreamAt) (failure : Failure) (old middle last : Line) → FetchesEach front streams old middle → FetchStops rest failure middle last
    → FetchStops (front ++ rest) failure old last
fetch_stops_behind front rest streams failure old middle last fetched stops = record {
  front = front ++ stops.front;
  rest = stops.rest;
  splits = ap (λ (l : List EndpointSaid). front ++ l) stops.splits ∙ sym (append_assoc front stops.front stops.rest);
  streams = streams ++ stops.streams;
  middle = stops.middle;
  fetched = fetches_both front stops.front streams stops.streams old middle stops.middle fetched stops.fetched;
  why = stops.why;
}

-- ---- in a format

module _ (format : Format) where
  -- ---- streams that came

  -- what was written says some of more rows, too
  writes_more : (streams : List StreamAt) (stream : StreamAt) (a b : Said) → WritesSome format streams a b → WritesSome format (streams ++ stream ∷ []) a b
  writes_more streams stream a b (inl same) = inl same
  writes_more streams stream a b (inr (schema, says, breaks)) =
      inr (schema, first_stays streams stream schema says, breaks_before format schema (rows_held (streams ++ stream ∷ [])) (rows_held streams) stream.rows a.bytes b.bytes a.failures b.failures (rows_more streams stream) breaks)

  -- why what came of a stream was not written, after others
  no_more : (streams : List StreamAt) (stream : StreamAt) (schema : Schema) (fault : Fault) → SaysFirst (streams ++ stream ∷ []) schema → WhyUnwritten format schema stream fault → WhyNoMore format (streams ++ stream ∷ []) fault
  no_more streams stream schema Transport first why = tt
  no_more streams stream schema OutOfMemory first why = tt
  no_more streams stream schema LimitReached first (arrow, long) = (
    arrow,
    (
      schema,
      first,
      record {
        before = rows_held streams ++ long.before;
        batch = long.batch;
        are = rows_more streams stream ∙ ap (λ (rows : Rows). rows_held streams ++ rows) long.are ∙ sym (append_assoc (rows_held streams) long.before (rows_of long.batch));
        long = long.long;
      },
    ),
  )
  no_more streams stream schema _ first why = absurd why

  -- ---- one batch more

  -- what comes of a stream has the columns of the schema that is written
  pub fits_written : (state : State) (known : Known) (schema own written : Schema) → state ≡ Some known → known.schema ≡ own → same_fields schema.fields own.fields ≡ true → written ≡ written_schema format schema → FitsSchema state written
  fits_written state known schema own written is says same as_written =
      let numbered : same_fields (written_schema format schema).fields own.fields ≡ true = same_written format schema own ∙ same in
      (known, is, rw (as_written, says) numbered)

  -- why a batch was not written
  unwritten_by : (schema written : Schema) (stream : StreamAt) (before : Rows) (batch : BatchAt) (fault : Fault) → stream.rows ≡ before ++ rows_of batch → written ≡ written_schema format schema
      → IsCauseIn format written (batch ∷ []) fault → WhyUnwritten format schema stream fault
  unwritten_by schema written stream before batch Transport are is cause = tt
  unwritten_by schema written stream before batch OutOfMemory are is cause = tt
  unwritten_by schema written stream before batch LimitReached are is (arrow, cause) =
      let numbered : written ≡ numbered_schema schema = is ∙ ap (λ (f : Format). written_schema f schema) arrow in (
        arrow,
        record {
          before = before;
          batch = batch;
          are = are;
          long = λ short. cause (All-cons (HasShortRows written) batch [] (subst (λ (s : Schema). HasShortRows s batch) (sym numbered) short) (All-nil (HasShortRows written)));
        },
      )
  unwritten_by schema written stream before batch _ are is cause = absurd cause

  -- ---- the batches of a stream

  -- a stream that begins has the columns of the schema that is written
  pub at_begin : (ticket : Payload) (schema own : Schema) (rows : Rows) (start : Option (List ℕ)) (begun : Line) (now : FetchAt) (out : Said) (writer : WriterAt) (it : IsBegun ticket now.state begun now.line) → (it.known).schema ≡ own
      → same_fields schema.fields own.fields ≡ true → HasTakenRows format schema rows start out.bytes writer → IsUnderWay format ticket schema own rows start begun it.stream now out writer
  at_begin ticket schema own rows start begun now out writer it is same so = record {
    fetching = it.fetching;
    state = it.state_is;
    says = (it.known, it.state_is ∙ it.has_schema, is);
    same = same;
    so = subst (λ (all : Rows). HasTakenRows format schema all start out.bytes writer) (sym (ap (λ (more : Rows). rows ++ more) it.no_rows ∙ append-nil rows)) so;
  }

  module _ (ticket : Payload) (schema own : Schema) (rows : Rows) (start : Option (List ℕ)) (begun : Line) (stream : StreamAt) (now : FetchAt) (out : Said) (writer : WriterAt)
      (passing : IsUnderWay format ticket schema own rows start begun stream now out writer) where
    -- nothing more was written
    pub same_passing : (writer' : WriterAt) (out' : Said) → writer' ≡ writer → out' ≡ out → IsUnderWay format ticket schema own rows start begun stream now out' writer'
    same_passing writer' out' same still = record {
      fetching = passing.fetching;
      state = passing.state;
      says = passing.says;
      same = passing.same;
      so = subst (λ (o : Said). HasTakenRows format schema (rows ++ stream.rows) start o.bytes writer') (sym still)
          (subst (λ (w : WriterAt). HasTakenRows format schema (rows ++ stream.rows) start out.bytes w) (sym same) passing.so);
    }

    -- a batch came
    module _ (state : State) (line : Line) (batch : BatchAt) (fetching : IsFetchReader ticket (with_batch stream state (Some batch)) begun line) (kept : KeepsSchema now.state state) where
      abbrev with_it : StreamAt
      with_it = with_batch stream state (Some batch)

      says : SaysSchema with_it own
      says = keeps_said stream now.state state (Some batch) own passing.state kept passing.says

      -- and was written
      pub batch_passed : (next : FetchAt) (out' : Said) (after : WriterAt) → next.state ≡ state → next.line ≡ line
          → SendsRows {A = Unit {0}} (Ok tt) format batch writer after out out' → IsUnderWay format ticket schema own rows start begun with_it next out' after
      batch_passed next out' after state_is line_is sends = record {
        fetching = subst (λ (l : Line). IsFetchReader ticket with_it begun l) (sym line_is) fetching;
        state = sym state_is;
        says = says;
        same = passing.same;
        so = subst (λ (all : Rows). HasTakenRows format schema all start out'.bytes after) (append_assoc rows stream.rows (rows_of batch)) (sends schema (rows ++ stream.rows) start passing.so);
      }

      -- or not
      pub batch_stopped : (fault : Fault) (failure : Failure) (first out' : Said) (after : WriterAt) → failure ≡ Found fault → out.failures ≡ first.failures
          → SendsRows {A = Unit {0}} (Err fault) format batch writer after out out'
          → IsCauseIn format writer.schema (batch ∷ []) fault → CountsWrites {A = Unit {0}} (Err fault) out.failures out'.failures
          → StopsWithin format ticket schema own rows start begun failure line first out'
      batch_stopped fault failure first out' after is quiet sends cause counted = record {
        stream = with_it;
        some = line;
        fetching = fetching;
        says = says;
        why = inr (
          fault,
          is,
          unwritten_by schema writer.schema with_it stream.rows batch fault refl passing.so.written cause,
          subst (λ (n : ℕ). EndsAt format fault schema (rows ++ with_it.rows) start out'.bytes n out'.failures) quiet (by fault sends counted),
          refl,
        );
      }
        where
          by : (fault : Fault) → SendsRows {A = Unit {0}} (Err fault) format batch writer after out out'
              → CountsWrites {A = Unit {0}} (Err fault) out.failures out'.failures → EndsAt format fault schema (rows ++ with_it.rows) start out'.bytes out.failures out'.failures
          by Transport sends counted =
              (subst (λ (all : Rows). WritesFront format schema all start out'.bytes) (append_assoc rows stream.rows (rows_of batch)) (sends schema (rows ++ stream.rows) start passing.so), counted)
          by _ sends counted =
              subst (λ (all : Rows). BreaksRows format schema all start out'.bytes out.failures out'.failures) (append_assoc rows stream.rows (rows_of batch)) (sends schema (rows ++ stream.rows) start passing.so)

    -- the stream ended
    pub all_passed : (next : FetchAt) (first : Said) → FetchGives ticket (Ok (ended (with_batch stream next.state None))) begun next.line → KeepsSchema now.state next.state → out.failures ≡ first.failures
        → HasCome format ticket schema own rows start begun next first out writer
    all_passed next first fetched kept quiet = record {
      stream = ended (with_batch stream next.state None);
      fetched = fetched;
      ended = refl;
      state = refl;
      says = keeps_said stream now.state next.state None own passing.state kept passing.says;
      so = passing.so;
      quiet = quiet;
    }

    -- it failed
    pub fetch_failed : (failure : Failure) (line : Line) (first out' : Said) (after : WriterAt) → FetchGives ticket (Err failure) begun line → out.failures ≡ first.failures
        → BreaksAtFailure {A = Option BatchAt} format (Err failure) writer after out out' → StopsWithin format ticket schema own rows start begun failure line first out'
    fetch_failed failure line first out' after fetched quiet breaks = record {
      stream = stream;
      some = now.line;
      fetching = passing.fetching;
      says = passing.says;
      why = inl (fetched, subst (λ (n : ℕ). BreaksRows format schema (rows ++ stream.rows) start out'.bytes n out'.failures) quiet (breaks schema (rows ++ stream.rows) start passing.so));
    }

  -- ---- a stream after others

  -- what was sent of streams breaks off
  pub breaks_sent : (streams : List StreamAt) (begun mid out : Said) (writer : WriterAt) → AreSent format streams begun writer mid → Breaks format writer mid out → WritesBroken format streams begun out
  breaks_sent streams begun mid out writer sent breaks = (
    sent.schema,
    sent.says,
    subst (λ (n : ℕ). BreaksRows format sent.schema (rows_held streams) begun.bytes out.bytes n out.failures) sent.quiet
        (breaks sent.schema (rows_held streams) begun.bytes sent.so),
  )

  module _ (before : List StreamAt) (behind : List EndpointSaid) (endpoint : EndpointSaid) (line : Line) where
    came_next : (stream : StreamAt) (some : Line) → IsFetchReader endpoint.ticket stream line some → ComeSome (endpoint ∷ behind) (stream ∷ []) line some
    came_next stream some fetching = inl (refl, fetching)

    came_whole : (stream : StreamAt) (some : Line) → FetchesOne endpoint (Ok stream) line some → ComeSome (endpoint ∷ behind) (stream ∷ []) line some
    came_whole stream some one = inr (some, one, come_none behind some)

    fetch_stops : (failure : Failure) (last : Line) → FetchGives endpoint.ticket (Err failure) line last → FetchStops (endpoint ∷ behind) failure line last
    fetch_stops failure last gives = record { front = []; rest = endpoint ∷ behind; splits = refl; streams = []; middle = line; fetched = refl; why = inl gives }

    -- it was not begun
    pub not_begun : (failure : Failure) (last : Line) (begun out : Said) → WritesSome format before begun out
        → FetchGives endpoint.ticket (Err failure) line last ⊎ HasNoSchema endpoint.ticket failure line last → StopsInRun format before (endpoint ∷ behind) failure line begun out
    not_begun failure last begun out wrote (inl gives) = record {
      more = [];
      some = line;
      came = refl;
      last = last;
      why = inl (fetch_stops failure last gives, subst (λ (l : List StreamAt). WritesSome format l begun out) (sym (append-nil before)) wrote);
    }
    not_begun failure last begun out wrote (inr lacks) = record {
      more = lacks.stream ∷ [];
      some = last;
      came = came_whole lacks.stream last lacks.whole;
      last = last;
      why = inr (BadBatch, lacks.failure_is, record { before = before; last = lacks.stream; are = refl; lacks = lacks.none }, writes_more before lacks.stream begun out wrote, refl);
    }

    -- it has other columns
    has_other : (state : State) (now : Line) (schema : Schema) (begun out : Said) (it : IsBegun endpoint.ticket state line now) → WritesSome format before begun out
        → SaysFirst before schema → same_fields schema.fields it.known.schema.fields ≡ false → StopsInRun format before (endpoint ∷ behind) (Found SchemaMismatch) line begun out
    has_other state now schema begun out it wrote says differ = record {
      more = it.stream ∷ [];
      some = now;
      came = came_next it.stream now it.fetching;
      last = now;
      why = inr (
        SchemaMismatch,
        refl,
        record {
          schema = schema;
          first = first_stays before it.stream schema says;
          before = before;
          last = it.stream;
          are = refl;
          other = it.known.schema;
          says = (it.known, it.state_is ∙ it.has_schema, refl);
          differ = differ;
        },
        writes_more before it.stream begun out wrote,
        refl,
      );
    }

  -- ---- a stream that is begun

  -- the columns that are written are those of the schema, whatever numbers dictionaries have
  unnumbered : (schema written own : Schema) (same : Bool) → written ≡ written_schema format schema → same_fields written.fields own.fields ≡ same → same_fields schema.fields own.fields ≡ same
  unnumbered schema written own same is fits =
      sym (same_written format schema own) ∙ (ap (λ (w : Schema). same_fields w.fields own.fields) (sym is) ∙ fits)

  -- it follows streams that were sent
  follows_sent : (streams : List StreamAt) (begun out : Said) (writer : WriterAt) (sent : AreSent format streams begun writer out) (own : Schema) → same_fields sent.schema.fields own.fields ≡ true → Follows streams sent.schema own
  follows_sent [] begun out writer sent own same = absurd sent.says
  follows_sent (s ∷ ss) begun out writer sent own same = (sent.says, sent.join, same)

  module _ {A : Type 0} (view : A → OpenAt) (streams : List StreamAt) (endpoint : EndpointSaid) (line : Line) (begun mid out : Said) (writer : WriterAt)
      (sent : AreSent format streams begun writer mid) where
    -- where it has the columns that are written it is open
    pub opens_by : (fetch : FetchAt) (result : Result A Failure) → IsBegun endpoint.ticket fetch.state line fetch.line → ChecksColumns format view result fetch writer mid out → Opens format view result streams endpoint line begun out
    opens_by fetch (Ok passing) it fits =
        let same = of_known endpoint.ticket fetch line writer.schema true it fits.1 in
        let open_at : IsOpen format streams endpoint.ticket line begun (record { fetch = fetch; writer = writer }) mid = record {
          begins = it;
          schema = sent.schema;
          follows = follows_sent streams begun mid writer sent it.known.schema (unnumbered sent.schema writer.schema it.known.schema true sent.so.written same);
          so = sent.so;
          quiet = sent.quiet;
        } in
        subst (λ (now : OpenAt). IsOpen format streams endpoint.ticket line begun now out) (sym fits.0)
        (subst (λ (o : Said). IsOpen format streams endpoint.ticket line begun (record { fetch = fetch; writer = writer }) o) (sym fits.2) open_at)
    opens_by fetch (Err failure) it fits =
        let differ = of_known endpoint.ticket fetch line writer.schema false it fits.1 in
        λ behind. subst (λ (f : Failure). StopsInRun format streams (endpoint ∷ behind) f line begun out) (sym fits.0)
        (has_other streams behind endpoint line fetch.state fetch.line sent.schema begun out it (inr (breaks_sent streams begun mid out writer sent fits.2)) sent.says
        (unnumbered sent.schema writer.schema it.known.schema false sent.so.written differ))

    -- it was not begun, and what was sent breaks off
    pub not_opened : (failure : Failure) → Breaks format writer mid out → (new : Line) × (FetchGives endpoint.ticket (Err failure) line new ⊎ HasNoSchema endpoint.ticket failure line new)
        → Opens format view (Err failure) streams endpoint line begun out
    not_opened failure breaks stops = λ behind.
        not_begun streams behind endpoint line failure stops.0 begun out (inr (breaks_sent streams begun mid out writer sent breaks)) stops.1

  -- ---- the first stream

  -- its schema was not sent
  pub schema_unsent : {A : Type 0} (view : A → WriterAt) (endpoint : EndpointSaid) (behind : List EndpointSaid) (state : State) (schema : Schema) (fault : Fault) (first line : Line) (begun out : Said) (it : IsBegun endpoint.ticket state first line) → it.known.schema ≡ schema
      → BeginsRows format view (Err fault) schema begun.bytes out.bytes → IsCauseIn format (written_schema format schema) [] fault → CountsTransport {A = Unit {0}} (Err fault) begun.failures out.failures → StopsInRun format [] (endpoint ∷ behind) (Found fault) first begun out
  schema_unsent view endpoint behind state schema fault first line begun out it is begins cause counted = record {
    more = it.stream ∷ [];
    some = line;
    came = inl (refl, it.fetching);
    last = line;
    why = inr (fault, refl, (by fault begins cause counted).0, (by fault begins cause counted).1, refl);
  }
    where
      by : (fault : Fault) → BeginsRows format view (Err fault) schema begun.bytes out.bytes → IsCauseIn format (written_schema format schema) [] fault → CountsTransport {A = Unit {0}} (Err fault) begun.failures out.failures
          → WhyNoMore format (it.stream ∷ []) fault × WritesUpTo format fault (it.stream ∷ []) begun out
      by Transport begins cause counted = (
        tt,
        (
          schema,
          (it.known, it.state_is ∙ it.has_schema, is),
          subst (λ (rows : Rows). WritesFront format schema rows begun.bytes out.bytes) (sym (append-nil it.stream.rows ∙ it.no_rows)) begins,
          counted,
        ),
      )
      by OutOfMemory begins cause counted = (tt, inl (same_said begun out begins counted))
      by LimitReached begins cause counted = absurd (cause.1 (All-nil (HasShortRows (written_schema format schema))))
      by _ begins cause counted = absurd cause

  -- its schema was sent, and nothing else
  pub opens_first : (endpoint : EndpointSaid) (line : Line) (begun out : Said) (now : OpenAt) (schema : Schema) (it : IsBegun endpoint.ticket now.fetch.state line now.fetch.line) → it.known.schema ≡ schema
      → HasTakenRows format schema [] begun.bytes out.bytes now.writer → out.failures ≡ begun.failures → IsOpen format [] endpoint.ticket line begun now out
  opens_first endpoint line begun out now schema it is begins quiet =
      record { begins = it; schema = schema; follows = is; so = begins; quiet = quiet }

  -- ---- a stream that is open

  module _ (before : List StreamAt) (endpoint : EndpointSaid) (line : Line) (begun mid : Said) (now : OpenAt) (at : IsOpen format before endpoint.ticket line begun now mid) where
    -- its batches come next
    pub passing_at : IsUnderWay format endpoint.ticket at.schema at.begins.known.schema (rows_held before) begun.bytes line at.begins.stream now.fetch mid now.writer
    passing_at = at_begin endpoint.ticket at.schema at.begins.known.schema (rows_held before) begun.bytes line now.fetch mid now.writer at.begins refl
        (has_same before at.schema at.begins.known.schema at.follows) at.so

    -- it stopped after some rows
    pub stream_stops : (behind : List EndpointSaid) (failure : Failure) (last : Line) (out : Said)
        → StopsWithin format endpoint.ticket at.schema at.begins.known.schema (rows_held before) begun.bytes line failure last mid out → StopsInRun format before (endpoint ∷ behind) failure line begun out
    stream_stops behind failure last out stops = record {
      more = stops.stream ∷ [];
      some = stops.some;
      came = came_next before behind endpoint line stops.stream stops.some stops.fetching;
      last = last;
      why = by stops.why;
    }
      where
        first_is : SaysFirst (before ++ stops.stream ∷ []) at.schema
        first_is = first_says before at.schema at.begins.known.schema at.follows stops.stream stops.says

        breaks : BreaksRows format at.schema (rows_held before ++ stops.stream.rows) begun.bytes out.bytes mid.failures out.failures → WritesSome format (before ++ stops.stream ∷ []) begun out
        breaks off = inr (
          at.schema,
          first_is,
          subst (λ (n : ℕ). BreaksRows format at.schema (rows_held (before ++ stops.stream ∷ [])) begun.bytes out.bytes n out.failures) at.quiet
              (subst (λ (rows : Rows). BreaksRows format at.schema rows begun.bytes out.bytes mid.failures out.failures) (sym (rows_more before stops.stream)) off),
        )

        up_to : (fault : Fault) → EndsAt format fault at.schema (rows_held before ++ stops.stream.rows) begun.bytes out.bytes mid.failures out.failures → WritesUpTo format fault (before ++ stops.stream ∷ []) begun out
        up_to Transport (part, counted) = (
          at.schema,
          first_is,
          subst (λ (rows : Rows). WritesFront format at.schema rows begun.bytes out.bytes) (sym (rows_more before stops.stream)) part,
          subst (λ (n : ℕ). out.failures ≡ n + 1) at.quiet counted,
        )
        up_to _ off = breaks off

        by : ((FetchGives endpoint.ticket (Err failure) line last × BreaksRows format at.schema (rows_held before ++ stops.stream.rows) begun.bytes out.bytes mid.failures out.failures)
            ⊎ ((fault : Fault) × (failure ≡ Found fault) × WhyUnwritten format at.schema stops.stream fault × EndsAt format fault at.schema (rows_held before ++ stops.stream.rows) begun.bytes out.bytes mid.failures out.failures × (last ≡ stops.some)))
            → Stops format (endpoint ∷ behind) (before ++ stops.stream ∷ []) failure line stops.some last begun out
        by (inl (gives, off)) = inl (fetch_stops before behind endpoint line failure last gives, breaks off)
        by (inr (fault, is, why, ends, same)) = inr (fault, is, no_more before stops.stream at.schema fault first_is why, up_to fault ends, same)

    -- it came whole
    pub stream_passed : (fetch : FetchAt) (out : Said) (after : HandoverAt) → after.line ≡ fetch.line
        → HasCome format endpoint.ticket at.schema at.begins.known.schema (rows_held before) begun.bytes line fetch mid out after.writer → HaveCome format before (endpoint ∷ []) line begun after out
    stream_passed fetch out after is passed = record {
      streams = passed.stream ∷ [];
      fetched = (fetch.line, passed.fetched, is);
      sent = record {
        schema = at.schema;
        says = first_says before at.schema at.begins.known.schema at.follows passed.stream passed.says;
        join = joins before at.schema at.begins.known.schema at.follows passed.stream (says_ended passed.stream at.begins.known.schema passed.ended passed.says);
        so = subst (λ (rows : Rows). HasTakenRows format at.schema rows begun.bytes out.bytes after.writer) (sym (rows_more before passed.stream)) passed.so;
        quiet = passed.quiet ∙ at.quiet;
      };
    }

  -- ---- streams of one connection

  module _ (before : List StreamAt) (front : List EndpointSaid) (line : Line) (begun mid out : Said) (now : HandoverAt) (passed : HaveCome format before front line begun now mid) where
    -- it stopped among those after them
    pub stops_behind : (rest : List EndpointSaid) (failure : Failure) → StopsInRun format (before ++ passed.streams) rest failure now.line begun out → StopsInRun format before (front ++ rest) failure line begun out
    stops_behind rest failure stops = record {
      more = passed.streams ++ stops.more;
      some = stops.some;
      came = come_behind front rest passed.streams stops.more line now.line stops.some passed.fetched stops.came;
      last = stops.last;
      why = by stops.why;
    }
      where
        same : (before ++ passed.streams) ++ stops.more ≡ before ++ (passed.streams ++ stops.more)
        same = append_assoc before passed.streams stops.more

        by : Stops format rest ((before ++ passed.streams) ++ stops.more) failure now.line stops.some stops.last begun out → Stops format (front ++ rest) (before ++ (passed.streams ++ stops.more)) failure line stops.some stops.last begun out
        by (inl (fails, wrote)) = inl (
          fetch_stops_behind front rest passed.streams failure line now.line stops.last passed.fetched fails,
          subst (λ (l : List StreamAt). WritesSome format l begun out) same wrote,
        )
        by (inr (fault, is, why, wrote, still)) = inr (
          fault,
          is,
          subst (λ (l : List StreamAt). WhyNoMore format l fault) same why,
          subst (λ (l : List StreamAt). WritesUpTo format fault l begun out) same wrote,
          still,
        )

    -- these came whole, too
    passed_behind : (rest : List EndpointSaid) (later : HandoverAt) → HaveCome format (before ++ passed.streams) rest now.line begun later out → HaveCome format before (front ++ rest) line begun later out
    passed_behind rest later more = record {
      streams = passed.streams ++ more.streams;
      fetched = fetches_both front rest passed.streams more.streams line now.line later.line passed.fetched more.fetched;
      sent = subst (λ (l : List StreamAt). AreSent format l begun later.writer out) (append_assoc before passed.streams more.streams) more.sent;
    }

    -- one stream more, or not
    pub passes_behind : {A : Type 0} (view : A → HandoverAt) (endpoint : EndpointSaid) (result : Result A Failure) → WritesNext format view result (before ++ passed.streams) [] endpoint now.line begun out → WritesNext format view result before front endpoint line begun out
    passes_behind view endpoint (Ok later) more = passed_behind (endpoint ∷ []) (view later) more
    passes_behind view endpoint (Err failure) stops = λ behind. stops_behind (endpoint ∷ behind) failure (stops behind)

  -- ---- streams one after the other

  module _ {X : Type 0} (said : X → EndpointSaid) (items : List X) (i : ℕ) (x : X) (inside : i < length items) (is : x ≡ get_or items i x) (before : List StreamAt) (front : EndpointSaid) where
    -- the next one was passed on
    pub passed_more : (line : Line) (begun out : Said) (now : HandoverAt) → HaveCome format before ((front ∷ map said (take i items)) ++ said x ∷ []) line begun now out → HaveCome format before (front ∷ map said (take (i + 1) items)) line begun now out
    passed_more line begun out now passed =
        subst (λ (endpoints : List EndpointSaid). HaveCome format before (front ∷ endpoints) line begun now out) (sym (front_more said items i x inside is)) passed

    -- or it stopped there
    pub stopped_among : (failure : Failure) (line : Line) (begun out : Said) → StopsInRun format before ((front ∷ map said (take i items)) ++ said x ∷ map said (drop (i + 1) items)) failure line begun out → StopsInRun format before (front ∷ map said items) failure line begun out
    stopped_among failure line begun out stops =
        subst (λ (endpoints : List EndpointSaid). StopsInRun format before (front ∷ endpoints) failure line begun out) (sym (split_at said items i x inside is)) stops
