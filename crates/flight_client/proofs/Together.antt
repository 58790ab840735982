-- Streams put together.
use Rattle.std.proofs.Common.{◌≡◌, ℕ, suc, ◌+◌, ◌<◌, ◌&&◌, Bool as Truth, true, false, List, [], ◌∷◌, ◌++◌, length, map, drop, get_or, All, Some, None, Result, Ok, Err, refl, sym, ap, subst, ◌∙◌, add-one, drop-cons, append_assoc, append-nil}
use Rattle.std.specs.Prelude.{if◌then◌else◌}
use Rattle.std.specs.List.{flat_map, list_all}
use Rattle.std.specs.Str.{bytes_eq}
use Rattle.std.proofs.lemmas.Slice.Eq.{bytes_eq-Decides}
use Rattle.std.proofs.lemmas.List.Elements.{All-head, All-tail}
use Rattle.scan_base.specs.declared.fault.Fault.{Fault}
use Rattle.scan_base.specs.declared.fault.Fault.TheVariants.{BadBatch, SchemaMismatch}
use Rattle.scan_base.specs.Reading.{◌>>=◌, wanted}
use Rattle.scan_base.specs.Lists.{each}
use Rattle.scan_base.proofs.ReadingLaws.{behind, behind_more}
use Rattle.scan_base.specs.Value.{same_flag}
use Rattle.arrow_types.specs.declared.data_type.DataType.{DataType}
use Rattle.arrow_types.specs.declared.data_type.DataType.TheVariants.{Number}
use Rattle.arrow_types.specs.declared.schema.Field.{Field}
use Rattle.arrow_types.specs.declared.schema.Schema.{Schema}
use Rattle.arrow_types.proofs.SameNumber.{same_number_self}
use Rattle.ipc_batch.specs.State.{Known}
use Rattle.ipc_batch.specs.SaidRows.{Rows}
use Rattle.ipc_batch.proofs.Lengths.{fine, both}
use Rattle.table_versions.specs.Table.{Table, same_type, same_field, same_fields}
use Rattle.flight_client.specs.Stream.{StreamAt, ending, schema_said}
use Rattle.flight_client.specs.Join.{Answer, SaysRows, AreOf, joined, one_schema, schema_of_all, rows_together}
use Rattle.flight_client.specs.inside.GatheredStreams.{gathered}
use Rattle.flight_client.proofs.Arrivals.{held, schema_there, wanted_there}

-- ---- a schema has its own columns

flag_same : (b : Truth) → same_flag b b ≡ true
flag_same true = refl
flag_same false = refl

both_true : (a b : Truth) → a ≡ true → b ≡ true → (a && b) ≡ true
both_true a b p q = rw (p, q) refl

type_same : (t : DataType) → same_type t t ≡ true
type_same (Number kind) = same_number_self kind
type_same other = refl

field_same : (f : Field) → same_field f f ≡ true
field_same f =
    both_true (bytes_eq f.name f.name && same_type f.data_type f.data_type) (same_flag f.nullable f.nullable)
    (both_true (bytes_eq f.name f.name) (same_type f.data_type f.data_type) ((bytes_eq-Decides f.name f.name).1 refl) (type_same f.data_type)) (flag_same f.nullable)

-- a schema has its own columns
pub fields_same : (fields : List Field) → same_fields fields fields ≡ true
fields_same [] = refl
fields_same (f ∷ fs) = both_true (same_field f f) (same_fields fs fs) (field_same f) (fields_same fs)

-- ---- a schema after another

-- whether a schema has the columns of the first
abbrev pub has_columns : Schema → Schema → Truth
has_columns first other = same_fields first.fields other.fields

list_all-push : {X : Type 0} (test : X → Truth) (xs : List X) (x : X) → list_all test (xs ++ x ∷ []) ≡ (list_all test xs && test x)
list_all-push test [] x = one (test x)
  where
    one : (b : Truth) → (b && true) ≡ b
    one true = refl
    one false = refl
list_all-push test (y ∷ ys) x = by (test y) (list_all-push test ys x)
  where
    by : (b : Truth) → list_all test (ys ++ x ∷ []) ≡ (list_all test ys && test x) → (b && list_all test (ys ++ x ∷ [])) ≡ ((b && list_all test ys) && test x)
    by true e = e
    by false e = refl

-- one item is left of a list
pub dropped : {X : Type 0} (xs : List X) (i : ℕ) (x : X) → i < length xs → x ≡ get_or xs i x → drop i xs ≡ x ∷ drop (i + 1) xs
dropped {X = X} xs i x low is = rw (add-one, drop-cons xs i x low) (ap (λ (y : X). y ∷ drop (suc i) xs) (sym is))

-- what is read of the others after the first: the schemas so far, and then the rest
abbrev pub IsRead : List StreamAt → List StreamAt → Schema → Truth → Type 0
IsRead others rest first same =
    (done : List Schema) × (each schema_said others ≡ behind done (each schema_said rest)) × (same ≡ list_all (has_columns first) done)

pub read_more : (others rest : List StreamAt) (first : Schema) (same now : Truth) (stream : StreamAt) (schema : Schema) → schema_said stream ≡ Ok schema
    → now ≡ (same && has_columns first schema) → IsRead others (stream ∷ rest) first same → IsRead others rest first now
read_more others rest first same now stream schema said is read = (
  read.0 ++ schema ∷ [],
  read.1 ∙ behind_more schema_said read.0 stream rest schema said,
  is ∙ ap (λ b. b && has_columns first schema) read.2 ∙ sym (list_all-push (has_columns first) read.0 schema),
)

-- the next of the others is read
pub read_next : (others : List StreamAt) (i : ℕ) (first : Schema) (same now : Truth) (stream : StreamAt) (schema : Schema) → i < length others → stream ≡ get_or others i stream
    → schema_said stream ≡ Ok schema → now ≡ (same && has_columns first schema) → IsRead others (drop i others) first same → IsRead others (drop (i + 1) others) first now
read_next others i first same now stream schema low is said test read =
    read_more others (drop (i + 1) others) first same now stream schema said test (subst (λ (rest : List StreamAt). IsRead others rest first same) (dropped others i stream low is) read)

-- whether it has the columns of the first, too
pub still_same : (same : Truth) (test now : Truth) → same ≡ true → now ≡ test → now ≡ (same && test)
still_same same test now all is = rw (all, is) refl

pub no_more_same : (same : Truth) (test now : Truth) → same ≡ false → now ≡ same → now ≡ (same && test)
no_more_same same test now differs is = rw (is, differs) refl

-- ---- the rows of streams

-- all rows of these streams
abbrev pub rows_in_all : List StreamAt → Rows
rows_in_all streams = flat_map (λ (stream : StreamAt). stream.rows) streams

gathered_more : (table : Table) (streams : List StreamAt) → gathered (Some table) streams ≡ Ok (record table { rows = table.rows ++ rows_in_all streams })
gathered_more table [] = rw append-nil refl
gathered_more table (s ∷ ss) =
    gathered_more (record table { rows = table.rows ++ s.rows }) ss ∙ ap (λ (rows : Rows). fine (record table { rows = rows })) (append_assoc table.rows s.rows (rows_in_all ss))

-- the schema of a stream stands in what is known
pub knows : (stream : StreamAt) (schema : Schema) → schema_said stream ≡ Ok schema → (known : Known) × (stream.state ≡ Some known) × (known.schema ≡ schema)
knows stream schema e =
    let a = both (ending stream.end) (λ (done : Unit {0}). (wanted stream.state BadBatch >>= λ known. fine known.schema)) schema e in
    let b = both (wanted stream.state BadBatch) (λ (known : Known). fine known.schema) schema a.2 in
    let is : (b.0).schema ≡ schema = let last = b.2 in cc in
    (b.0, wanted_there stream.state BadBatch b.0 b.1, is)

first_one : (same : Truth) (first schema : Schema) → (if same then fine first else Err SchemaMismatch) ≡ Ok schema → first ≡ schema
first_one true first schema e = cc
first_one false first schema e = cc

-- what streams say that can be joined
abbrev together : List StreamAt → Schema → Result Table Fault
together streams schema = Ok (record { schema = schema; rows = rows_in_all streams })

gathered_is : (streams : List StreamAt) (schemas : List Schema) (schema : Schema) → each schema_said streams ≡ Ok schemas → one_schema schemas ≡ Ok schema
    → gathered None streams ≡ together streams schema
gathered_is [] schemas schema all one =
    let none : [] ≡ schemas = cc in
    let no : Err BadBatch ≡ Ok schema = rw (← none) at one in cc
gathered_is (s ∷ ss) schemas schema all one =
    let front = both (schema_said s) (λ (y : Schema). (each schema_said ss >>= λ ys. fine (y ∷ ys))) schemas all in
    let rest = both (each schema_said ss) (λ (ys : List Schema). fine (front.0 ∷ ys)) schemas front.2 in
    let same : front.0 ∷ rest.0 ≡ schemas = let last = rest.2 in cc in
    let is : front.0 ≡ schema = first_one (list_all (has_columns front.0) rest.0) front.0 schema (rw (← same) at one) in
    let known = knows s front.0 front.1 in
    rw known.1 (gathered_more (record { schema = (known.0).schema; rows = s.rows }) ss ∙ ap (together (s ∷ ss)) (known.2 ∙ is))

-- where they have one schema, they are gathered as they are joined
pub joined_gathered : (streams : List StreamAt) (schema : Schema) → schema_of_all streams ≡ Ok schema → joined streams ≡ gathered None streams
joined_gathered streams schema e =
    let a = both (each schema_said streams) one_schema schema e in
    rw e (sym (gathered_is streams a.0 schema a.1 a.2))

-- and else they are not joined
pub joined_stop : (streams : List StreamAt) (fault : Fault) → schema_of_all streams ≡ Err fault → joined streams ≡ Err fault
joined_stop streams fault e = rw e refl

-- ---- answers

-- the schema that each answer says
abbrev schemas_of : Schema → List Answer → List Schema
schemas_of schema answers = map (λ (answer : Answer). schema) answers

all_said : (schema : Schema) (answers : List Answer) → All (SaysRows schema) answers → each schema_said (map (λ (a : Answer). a.stream) answers) ≡ Ok (schemas_of schema answers)
all_said schema [] say = refl
all_said schema (a ∷ more) say =
    let here = All-head (SaysRows schema) a more say in
    let is = held a.payloads a.stream schema a.rows here.came here.said in
    let one : schema_said a.stream ≡ Ok schema = schema_there a.stream is.0 here.ended is.1 ∙ ap (λ (s : Schema). fine s) is.2 in
    rw (one, all_said schema more (All-tail (SaysRows schema) a more say)) refl

all_rows : (schema : Schema) (answers : List Answer) → All (SaysRows schema) answers → rows_in_all (map (λ (a : Answer). a.stream) answers) ≡ flat_map (λ (a : Answer). a.rows) answers
all_rows schema [] say = refl
all_rows schema (a ∷ more) say =
    let here = All-head (SaysRows schema) a more say in
    let is = held a.payloads a.stream schema a.rows here.came here.said in
    rw (is.3, all_rows schema more (All-tail (SaysRows schema) a more say)) refl

all_same : (schema : Schema) (answers : List Answer) → list_all (has_columns schema) (schemas_of schema answers) ≡ true
all_same schema [] = refl
all_same schema (a ∷ more) = both_true (has_columns schema schema) (list_all (has_columns schema) (schemas_of schema more)) (fields_same schema.fields) (all_same schema more)

pub answers_joined : (schema : Schema) (answers : List Answer) (streams : List StreamAt) → AreOf schema answers streams → joined streams ≡ Ok (rows_together schema answers)
answers_joined schema [] streams are = absurd (are.some refl)
answers_joined schema (a ∷ more) streams are =
    rw (are.streams_are, all_said schema (a ∷ more) are.say, all_same schema more, all_rows schema (a ∷ more) are.say) refl
