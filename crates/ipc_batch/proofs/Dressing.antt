-- Messages of batches after their dictionaries say the batches' rows.
use Rattle.std.proofs.Common.{◌≡◌, ◌≤◌, ◌<◌, ℕ, ◌+◌, Bool, true, false, List, [], ◌∷◌, ◌++◌, length, map, slice_get, unwrap_or, option_map, Option, Some, None, Ok, if◌then◌else◌, refl, sym, ap, subst, ◌∙◌, arith, append_assoc}
use Rattle.std.specs.List.{flat_map, list_any, range_with_len, AllZip, AllByRecursion}
use Rattle.std.proofs.lemmas.Bool.{ne_eqb, le-leb}
use Rattle.std.proofs.lemmas.List.{length-map}
use Rattle.std.proofs.lemmas.Option.{slice_get-map}
use Rattle.std.proofs.lemmas.Simd.{map-map}
use Rattle.std.proofs.lemmas.List.Elements.{recursion_from_All}
use Rattle.scan_base.specs.declared.value.Value.{Value}
use Rattle.scan_base.specs.declared.value.Value.TheVariants.{Null, Text}
use Rattle.scan_base.specs.Limits.{most_values}
use Rattle.scan_base.specs.Predicate.{cell_in}
use Rattle.arrow_types.specs.declared.schema.Field.{Field}
use Rattle.arrow_types.specs.declared.schema.Schema.{Schema}
use Rattle.arrays.specs.Batch.{row_of, rows_of}
use Rattle.arrays.specs.Column.{ColumnAt, slot_of, values_of}
use Rattle.arrays.specs.Firsts.{firsts}
use Rattle.ipc_batch.specs.State.{Known, State, Dictionaries, values_under, with_values}
use Rattle.ipc_batch.specs.SaidRows.{Sent, News, Rows, Follows, news_of}
use Rattle.ipc_batch.specs.DressedBatches.{cells_in, is_coded, coded_from, SaysWhole, HasTexts, Dressing, IsDressed, AreDressed, DressedMessagesSay}
use Rattle.ipc_batch.specs.News.{leads_to}
use Rattle.ipc_batch.specs.WrittenMessages.{SaysValues, dictionary_news}
use Rattle.ipc_batch.proofs.Entries.{under_set, under_other}

-- the dictionaries after the messages of these columns
abbrev pub set_all : List ℕ → Rows → Dictionaries → Dictionaries
set_all [] rows dictionaries = dictionaries
set_all (number ∷ numbers) rows dictionaries =
    set_all numbers rows (with_values number (map Text (firsts (cells_in number rows))) dictionaries)

-- those of columns before the first stay
lower : (n : ℕ) (fields : List Field) (rows : Rows) (dictionaries : Dictionaries) (id : ℕ) → id < n →
    values_under (set_all (coded_from n fields) rows dictionaries) id ≡ values_under dictionaries id
lower n [] rows dictionaries id low = refl
lower n (field ∷ fields) rows dictionaries id low =
    by (is_coded field.data_type) (λ (some : Dictionaries). lower (n + 1) fields rows some id (omega (arith, low)))
  where
    by : (coded : Bool) → ((some : Dictionaries) → values_under (set_all (coded_from (n + 1) fields) rows some) id ≡ values_under some id) →
        values_under (set_all (if coded then n ∷ coded_from (n + 1) fields else coded_from (n + 1) fields) rows dictionaries) id ≡ values_under dictionaries id
    by true rest =
        rest (with_values n (map Text (firsts (cells_in n rows))) dictionaries)
        ∙ under_other dictionaries n id (map Text (firsts (cells_in n rows))) (ne_eqb n id (λ (same : n ≡ id). omega (arith, low, same)))
    by false rest = rest dictionaries

-- each has its texts
sets : (n : ℕ) (fields : List Field) (rows : Rows) (dictionaries : Dictionaries) → HasTexts (coded_from n fields) rows (set_all (coded_from n fields) rows dictionaries)
sets n [] rows dictionaries = tt
sets n (field ∷ fields) rows dictionaries = by (is_coded field.data_type) (sets (n + 1) fields rows)
  where
    by : (coded : Bool) → ((some : Dictionaries) → HasTexts (coded_from (n + 1) fields) rows (set_all (coded_from (n + 1) fields) rows some)) →
        HasTexts (if coded then n ∷ coded_from (n + 1) fields else coded_from (n + 1) fields) rows
        (set_all (if coded then n ∷ coded_from (n + 1) fields else coded_from (n + 1) fields) rows dictionaries)
    by true rest =
        let own = with_values n (map Text (firsts (cells_in n rows))) dictionaries in
        (lower (n + 1) fields rows own n (omega arith) ∙ under_set dictionaries n (map Text (firsts (cells_in n rows))), rest own)
    by false rest = rest dictionaries

-- what is said after them is said from them on
goes : (schema : Schema) (numbers : List ℕ) (rows : Rows) (messages : List Sent) → AllZip (λ number sent. SaysWhole schema number (firsts (cells_in number rows)) sent) numbers messages →
    (known : Known) → known.schema ≡ schema → (more : List Sent) (end : State) (said : Rows) →
    Follows (Some (record known { dictionaries = set_all numbers rows known.dictionaries })) more end said → Follows (Some known) (messages ++ more) end said
goes schema [] rows [] all known is more end said follows = follows
goes schema [] rows (sent ∷ messages) all known is more end said follows = absurd all
goes schema (number ∷ numbers) rows [] all known is more end said follows = absurd all
goes schema (number ∷ numbers) rows (sent ∷ messages) all known is more end said follows =
    let own : Known = record known { dictionaries = with_values number (map Text (firsts (cells_in number rows))) known.dictionaries } in
    (record { state = Some own; batch = None }, said, all.0 known is, refl, goes schema numbers rows messages all.1 own is more end said follows)

-- one batch after another
say : (schema : Schema) (dressings : List Dressing) → AllByRecursion (IsDressed schema) dressings → (known : Known) → known.schema ≡ schema →
    (end : Known) × (end.schema ≡ schema)
    × Follows (Some known) (flat_map (λ (d : Dressing). d.dictionaries ++ d.batch ∷ []) dressings) (Some end) (flat_map (λ (d : Dressing). d.rows) dressings)
say schema [] all known is = (known, is, (refl, refl))
say schema (d ∷ dressings) all known is =
    let numbers = coded_from 0 schema.fields in
    let own : Known = record known { dictionaries = set_all numbers d.rows known.dictionaries } in
    let batch = all.0.adds own is (sets 0 schema.fields d.rows known.dictionaries) in
    let rest = say schema dressings all.1 own is in
    let others = flat_map (λ (x : Dressing). x.rows) dressings in
    let more = flat_map (λ (x : Dressing). x.dictionaries ++ x.batch ∷ []) dressings in
    let here : Follows (Some own) (d.batch ∷ more) (Some rest.0) (d.rows ++ others) =
    (record { state = Some own; batch = Some batch.0 }, others, batch.1, ap (λ (r : Rows). r ++ others) (sym batch.2), rest.2) in
    let whole = goes schema numbers d.rows d.dictionaries all.0.coded known is (d.batch ∷ more) (Some rest.0) (d.rows ++ others) here in
    (rest.0, rest.1, subst (λ (messages : List Sent). Follows (Some known) messages (Some rest.0) (d.rows ++ others)) (sym (append_assoc d.dictionaries (d.batch ∷ []) more)) whole)

pub dressed_say : DressedMessagesSay
dressed_say schema messages rows dressed known is =
    let all = say schema dressed.dressings (recursion_from_All (IsDressed schema) dressed.dressings dressed.all) known is in
    rw (dressed.are, dressed.whole) all

-- ---- how messages become dressed

-- a message that says all values of a dictionary, where a field has its id and there is room
pub whole_said : (schema : Schema) (id : ℕ) (texts : List (List ℕ)) (sent : Sent) → SaysValues sent id (map Text texts) false →
    list_any (leads_to id) schema.fields ≡ true → length texts ≤ most_values → SaysWhole schema id texts sent
unfolding dictionary_news
whole_said schema id texts sent says has few known is =
    let found : list_any (leads_to id) known.schema.fields ≡ true = ap (λ (s : Schema). list_any (leads_to id) s.fields) is ∙ has in
    let room : length (map Text texts) ≤ most_values = omega (arith, length-map texts Text, few) in
    says known ∙ rw (found, le-leb (length (map Text texts)) most_values room) refl

-- maps of functions that agree
same_maps : {A B : Type 0} (f g : A → B) (xs : List A) → ((x : A) → f x ≡ g x) → map f xs ≡ map g xs
same_maps f g [] same = refl
same_maps f g (x ∷ xs) same = rw (same x, same_maps f g xs same) refl

-- the cells of a batch's column are its values
pub column_cells : (columns : List ColumnAt) (rows number : ℕ) (column : ColumnAt) → slice_get columns number ≡ Some column → column.len ≡ rows →
    cells_in number (rows_of (record { columns = columns; rows = rows })) ≡ values_of column
column_cells columns rows number column found long =
    map-map (λ (row : List Value). cell_in row number) (row_of columns) (range_with_len 0 rows)
    ∙ same_maps (λ (j : ℕ). cell_in (row_of columns j) number) (slot_of column) (range_with_len 0 rows)
    (λ j. ap (λ (cell : Option Value). unwrap_or cell Null) (slice_get-map (λ (c : ColumnAt). slot_of c j) columns number ∙ ap (option_map (λ (c : ColumnAt). slot_of c j)) found))
    ∙ ap (λ (n : ℕ). map (slot_of column) (range_with_len 0 n)) (sym long)
