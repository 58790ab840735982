-- What a scan gives, as the source of a stream.
use Rattle.std.proofs.Common.{◌≡◌, ℕ, ◌+◌, false, List, [], ◌∷◌, ◌++◌, length, map, Option, Some, None, Result, Ok, Err, refl, sym, ap, subst, ◌∙◌, arith, inl, inr}
use Rattle.std.specs.List.{list_any, AllZip}
use Rattle.std.proofs.lemmas.List.{length-map}
use Rattle.std.proofs.lemmas.List.Folds.{list_any-append}
use Rattle.scan_base.specs.declared.fault.Fault.{Fault}
use Rattle.arrow_types.specs.declared.data_type.DictionaryEncoding.{DictionaryEncoding}
use Rattle.arrow_types.specs.declared.data_type.DataType.{DataType}
use Rattle.arrow_types.specs.declared.data_type.DataType.TheVariants.{Utf8, Dictionary}
use Rattle.arrow_types.specs.declared.schema.Field.{Field}
use Rattle.arrow_types.specs.declared.schema.Schema.{Schema}
use Rattle.arrow_types.specs.Answer.{answered_at, answered_from, LieBehind, LiesAs}
use Rattle.arrow_types.specs.Schema.{IsSchema}
use Rattle.arrays.specs.Batch.{BatchAt, rows_of}
use Rattle.arrays.specs.Column.{ColumnAt}
use Rattle.arrays.specs.declared.layout.Layout.{Layout}
use Rattle.arrays.specs.declared.layout.Layout.TheVariants as layout
use Rattle.arrays.specs.TypedLayouts.{IsOfType, AreOf, AreOfTypes}
use Rattle.dictionary_answers.specs.Dress.{IsNumbered, AreNumbered, IsTextLayout, IsDressable, AreDressable}
use Rattle.row_sources.specs.declared.turn.Patience.{Patience}
use Rattle.row_sources.specs.declared.turn.Turn.{Turn}
use Rattle.row_sources.specs.declared.turn.Turn.TheVariants.{Given, Working, End}
use Rattle.scan_exec.specs.Scan.{ScanAt, GivesRows, Gives, GivesTurn, IsReadied, MayRefuse, left}
use Rattle.scan_exec.specs.Scan as of_scan
use Rattle.table_versions.specs.Table.{Row, is_long_text}
use Rattle.table_versions.proofs.Storable.{first_false, second_false}
use Rattle.fetch_stream.specs.declared.source.Source.TheVariants.{Scanned, Listed}
use Rattle.fetch_stream.specs.inside.RowsAhead.{IsSource, AnsweredAs}
use Rattle.fetch_stream.specs.inside.GivenBatches.{GoesOn, GivesNext, GivesNoneYet, GivesBatch, TurnsBatch, MayRefuseSource}

-- ---- columns that can be answered

texts_as : (known : Layout) → IsOfType Utf8 known → IsTextLayout known
texts_as (layout.Texts cells) is = tt
texts_as _ is = absurd is

texts_by : (encoding : DictionaryEncoding) (known : Layout) → IsOfType (Dictionary encoding) known → IsTextLayout known
texts_by encoding (layout.Indices cells) is = tt
texts_by encoding _ is = absurd is

-- a column of a type can be answered as one
of_type : (t : DataType) (column : ColumnAt) → IsOfType t column.layout → IsDressable t column
of_type (Dictionary encoding) column is = texts_by encoding column.layout is
of_type other column is = is

pub typed_dressable : (fields : List Field) (columns : List ColumnAt) → AreOfTypes fields columns → AreDressable fields columns
typed_dressable [] [] typed = tt
typed_dressable (field ∷ fields) (column ∷ columns) typed = (of_type field.data_type column typed.0, typed_dressable fields columns typed.1)
typed_dressable [] (column ∷ columns) typed = absurd typed
typed_dressable (field ∷ fields) [] typed = absurd typed

-- a column that lies as one of a type can be answered as one of that type
one_dressable : (number : ℕ) (t lies own : DataType) (column : ColumnAt) → own ≡ answered_at number t → LiesAs t lies → IsOfType lies column.layout → IsDressable own column
one_dressable number t lies own column is behind typed = subst (λ (o : DataType). IsDressable o column) (sym is) (by t behind)
  where
    same : (u : DataType) → lies ≡ u → IsOfType u column.layout
    same u e = subst (λ (o : DataType). IsOfType o column.layout) e typed

    by : (t : DataType) → LiesAs t lies → IsDressable (answered_at number t) column
    by (Dictionary encoding) (inl e) = texts_by encoding column.layout (same (Dictionary encoding) e)
    by (Dictionary encoding) (inr e) = texts_as column.layout (same Utf8 e)
    by other (inl e) = same other e
    by other (inr e) = same other e

one_numbered : (number : ℕ) (t own : DataType) → own ≡ answered_at number t → IsNumbered number own
one_numbered number t own is = subst (IsNumbered number) (sym is) (by t)
  where
    by : (t : DataType) → IsNumbered number (answered_at number t)
    by (Dictionary encoding) = (refl, refl)
    by other = tt

abbrev first : List DataType → DataType
first [] = Utf8
first (one ∷ more) = one

abbrev rest : List DataType → List DataType
rest [] = []
rest (one ∷ more) = more

all_numbered : (number : ℕ) (fields : List Field) (types : List DataType) → map (λ (field : Field). field.data_type) fields ≡ answered_from number types → AreNumbered number fields
all_numbered number [] types are = tt
all_numbered number (field ∷ fields) [] are = absurd (omega (arith, ap length are))
all_numbered number (field ∷ fields) (t ∷ types) are = (one_numbered number t field.data_type (ap first are), all_numbered (number + 1) fields types (ap rest are))

all_dressable : (number : ℕ) (fields : List Field) (types lies : List DataType) (columns : List ColumnAt) → map (λ (field : Field). field.data_type) fields ≡ answered_from number types
    → AllZip LiesAs types lies → AreOf lies columns → AreDressable fields columns
all_dressable number [] [] [] [] are lie typed = tt
all_dressable number (field ∷ fields) (t ∷ types) (l ∷ lies) (column ∷ columns) are lie typed = (
  one_dressable number t l field.data_type column (ap first are) lie.0 typed.0,
  all_dressable (number + 1) fields types lies columns (ap rest are) lie.1 typed.1,
)
all_dressable number [] [] [] (column ∷ columns) are lie typed = absurd typed
all_dressable number [] [] (l ∷ lies) columns are lie typed = absurd lie
all_dressable number [] (t ∷ types) lies columns are lie typed = absurd (omega (arith, ap length are))
all_dressable number (field ∷ fields) [] lies columns are lie typed = absurd (omega (arith, ap length are))
all_dressable number (field ∷ fields) (t ∷ types) [] columns are lie typed = absurd lie
all_dressable number (field ∷ fields) (t ∷ types) (l ∷ lies) [] are lie typed = absurd typed

answered : (schema : Schema) (types : List DataType) (columns : List ColumnAt) → LieBehind schema.fields types → AreOf types columns → AnsweredAs schema columns
answered schema types columns behind typed = record {
  numbered = all_numbered 0 schema.fields behind.types behind.answered;
  dressable = all_dressable 0 schema.fields behind.types types columns behind.answered behind.lie typed;
}

-- ---- what a scan gives

-- where no text of the rows that are left is too long, none of a batch of them is, and none after it
both_short : (rows rest all : List Row) → rows ++ rest ≡ all → list_any (list_any is_long_text) all ≡ false
    → (list_any (list_any is_long_text) rows ≡ false) × (list_any (list_any is_long_text) rest ≡ false)
both_short rows rest all e short =
    let long = list_any is_long_text in
    let both = sym (list_any-append long rows rest) ∙ ap (list_any long) e ∙ short in
    (first_false (list_any long rows) (list_any long rest) both, second_false (list_any long rows) (list_any long rest) both)

-- the rows of a batch, each with its batch's number, and then others
ahead_rows : (number : Option ℕ) (rows : List Row) (rest : List (Option ℕ × Row))
    → map (λ (given : Option ℕ × Row). given.1) (map (λ (row : Row). (number, row)) rows ++ rest) ≡ rows ++ map (λ (given : Option ℕ × Row). given.1) rest
ahead_rows number [] rest = refl
ahead_rows number (row ∷ rows) rest = ap (λ (more : List Row). row ∷ more) (ahead_rows number rows rest)

gives_batch : (before after : ScanAt) (batch : BatchAt) → IsSource (Scanned before) → GivesRows before batch after → GivesNext (Scanned before) batch (Scanned after)
gives_batch before after batch is gives =
    let rows : rows_of batch ++ left after ≡ left before =
    sym (ap (map (λ (given : Option ℕ × Row). given.1)) gives.next ∙ ahead_rows gives.number (rows_of batch) after.ahead) in
    let short = both_short (rows_of batch) (left after) (left before) rows is.short in
    let typed : LieBehind after.schema.fields after.types =
    subst (λ (s : Schema). LieBehind s.fields after.types) (sym gives.on.schema) (subst (λ (t : List DataType). LieBehind before.schema.fields t) (sym gives.on.types) is.typed) in
    record {
      on = record {
        source = record { schema = subst IsSchema (sym gives.on.schema) is.schema; typed = typed; short = short.1; begins = gives.refused };
        schema = gives.on.schema;
      };
      some = gives.some;
      rows = rows;
      counted = λ last. gives.counted;
      within = gives.within;
      columns = answered before.schema before.types batch.columns is.typed gives.typed;
      short = short.0;
    }

-- why a scan was refused, its source was
refused_scan : (before : ScanAt) (fault : Fault) → MayRefuse before fault → MayRefuseSource (Scanned before) fault
refused_scan before fault (inl memory) = inl memory
refused_scan before fault (inr large) =
    inr (large.0, λ last. omega (arith, large.1, length-map before.ahead (λ (given : Option ℕ × Row). given.1)))

scan_gives : (before after : ScanAt) (result : Result (Option BatchAt) Fault) → IsSource (Scanned before) → Gives before result after → GivesBatch (Scanned before) result (Scanned after)
scan_gives before after result is gives = by before.schema before.types before.ahead before.batches before.opened before.given before.unseen before.refused is.begins result is gives
  where
    by : (schema : Schema) (types : List DataType) (ahead : List (Option ℕ × Row)) (batches opened : List (ℕ × ℕ)) (given unseen : ℕ) (refused : Option Fault) → refused ≡ None
        → (result : Result (Option BatchAt) Fault)
        → IsSource (Scanned (record { schema = schema; types = types; ahead = ahead; batches = batches; opened = opened; given = given; refused = refused; unseen = unseen }))
        → Gives (record { schema = schema; types = types; ahead = ahead; batches = batches; opened = opened; given = given; refused = refused; unseen = unseen }) result after
        → GivesBatch (Scanned (record { schema = schema; types = types; ahead = ahead; batches = batches; opened = opened; given = given; refused = refused; unseen = unseen })) result (Scanned after)
    by schema types ahead batches opened given unseen (Some fault) none result is gives = absurd cc
    by schema types ahead batches opened given unseen None none (Ok (Some batch)) is gives =
        gives_batch (record { schema = schema; types = types; ahead = ahead; batches = batches; opened = opened; given = given; refused = None; unseen = unseen }) after batch is gives
    by schema types ahead batches opened given unseen None none (Ok None) is gives =
        let scan : ScanAt = record { schema = schema; types = types; ahead = ahead; batches = batches; opened = opened; given = given; refused = None; unseen = unseen } in
        let same : record { schema = schema; types = types; ahead = ahead; batches = batches; opened = batches; given = given; refused = None; unseen = after.unseen } ≡ after = sym gives.1 in
        let nothing : left scan ≡ [] = ap (map (λ (some : Option ℕ × Row). some.1)) gives.0 in
        subst (λ (end : ScanAt). GoesOn (Scanned scan) (Scanned end) × (left scan ≡ []) × (left end ≡ []) × ((last : BatchAt) → end.given ≡ given)) same
        (record { source = record { schema = is.schema; typed = is.typed; short = is.short; begins = refl }; schema = refl }, nothing, nothing, λ last. refl)
    by schema types ahead batches opened given unseen None none (Err fault) is gives =
        refused_scan (record { schema = schema; types = types; ahead = ahead; batches = batches; opened = opened; given = given; refused = None; unseen = unseen }) fault gives.0

-- nothing yet
none_yet : (before after : ScanAt) → IsSource (Scanned before) → of_scan.GivesNoneYet before after → GivesNoneYet (Scanned before) (Scanned after)
none_yet before after is none =
    let rows : left before ≡ left after = ap (map (λ (given : Option ℕ × Row). given.1)) none.same in
    let typed : LieBehind after.schema.fields after.types =
    subst (λ (s : Schema). LieBehind s.fields after.types) (sym none.on.schema) (subst (λ (t : List DataType). LieBehind before.schema.fields t) (sym none.on.types) is.typed) in
    record {
      on = record {
        source = record {
          schema = subst IsSchema (sym none.on.schema) is.schema;
          typed = typed;
          short = subst (λ (some : List Row). list_any (list_any is_long_text) some ≡ false) rows is.short;
          begins = none.refused;
        };
        schema = none.on.schema;
      };
      rows = sym rows;
      counted = λ last. none.given;
    }

pub scan_turns : (patience : Patience) (before after : ScanAt) (result : Result (Turn BatchAt) Fault) → IsSource (Scanned before) → GivesTurn patience before result after →
    TurnsBatch patience (Scanned before) result (Scanned after)
scan_turns patience before after (Ok (Given batch)) is gives = scan_gives before after (Ok (Some batch)) is gives
scan_turns patience before after (Ok Working) is gives = (none_yet before after is gives.1, gives.2)
scan_turns patience before after (Ok End) is gives = scan_gives before after (Ok None) is gives
scan_turns patience before after (Err fault) is gives = scan_gives before after (Err fault) is gives

-- the same scan, where what it needs is made
pub scan_readied : (before after : ScanAt) → IsSource (Scanned before) → IsReadied before after → GivesNoneYet (Scanned before) (Scanned after)
scan_readied before after is ready =
    none_yet before after is (record { same = ready.same; given = ready.given; on = ready.on; refused = ready.refused ∙ is.begins })

-- and the list of tables, which needs nothing
pub listed_readied : (schema : Schema) → IsSource (Listed schema) → GivesNoneYet (Listed schema) (Listed schema)
listed_readied schema is = record { on = record { source = is; schema = refl }; rows = refl; counted = λ last. refl }
