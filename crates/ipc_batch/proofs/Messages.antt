-- What messages say, message by message.
use Rattle.std.proofs.Common.{◌≡◌, ℕ, List, [], ◌∷◌, ◌++◌, length, Option, Some, None, Result, Ok, Err, refl, ap, sym, subst, ◌∙◌, append_assoc, append-nil, IfOk}
use Rattle.std.specs.List.{range_with_len}
use Rattle.std.proofs.lemmas.List.{length-map}
use Rattle.std.proofs.lemmas.List.Elements.{All-nil, All-map, All-append}
use Rattle.scan_base.specs.declared.fault.Fault.{Fault}
use Rattle.scan_base.specs.declared.value.Value.{Value}
use Rattle.scan_base.specs.Reading.{◌>>=◌}
use Rattle.arrow_types.specs.declared.schema.Schema.{Schema}
use Rattle.arrow_schema.specs.declared.header.HeaderKind.{HeaderKind}
use Rattle.arrow_schema.specs.declared.header.HeaderKind.TheVariants as header
use Rattle.arrow_schema.specs.Header.{MessageAt, message_of}
use Rattle.arrays.specs.Column.{ColumnAt, slot_of}
use Rattle.arrays.specs.Batch.{BatchAt, row_of, rows_of}
use Rattle.arrays.specs.Texts.{TextsAt}
use Rattle.arrays.specs.Dictionary.{extended_by}
use Rattle.arrays.specs.TypedLayouts.{AreOfTypes}
use Rattle.ipc_batch.specs.Parts.{PartsAt, DictionaryParts}
use Rattle.ipc_batch.specs.Columns.{columns_from, one_texts}
use Rattle.ipc_batch.specs.State.{Known, State, values_under, with_values}
use Rattle.ipc_batch.specs.SaidRows.{Sent, News, first_schema, batch_parts, batch_sent, dictionary_sent, kept_of, known_after, next_news, news_in, news_of, Rows, rows_in, Follows, Tells, HasColumns, AreWide}
use Rattle.ipc_batch.specs.Laws.{TellingExtends, SayOneThing, JoinRows, RowsFitSchema}
use Rattle.ipc_batch.proofs.Lengths.{fine, both}
use Rattle.ipc_batch.proofs.Typed.{columns_typed, columns_many}

-- messages that follow one another
pub joined : (a : State) (xs ys : List Sent) (b c : State) (r s : Rows) → Follows a xs b r → Follows b ys c s → Follows a (xs ++ ys) c (r ++ s)
joined a [] ys b c r s p q = rw p.1 (subst (λ (x : State). Follows x ys c s) p.0 q)
joined a (x ∷ xs) ys b c r s p q =
    let e : r ++ s ≡ rows_in p.0.batch ++ (p.1 ++ s) = ap (λ (t : Rows). t ++ s) p.3 ∙ append_assoc (rows_in p.0.batch) p.1 s in
    (p.0, p.1 ++ s, p.2, e, joined p.0.state xs ys b c p.1 s p.4 q)

-- the front of the messages, and those after it
pub split : (a : State) (xs ys : List Sent) (c : State) (t : Rows) → Follows a (xs ++ ys) c t →
    (b : State) × (r : Rows) × (s : Rows) × Follows a xs b r × Follows b ys c s × (t ≡ r ++ s)
split a [] ys c t p = (a, [], t, (refl, refl), p, refl)
split a (x ∷ xs) ys c t p =
    let q = split p.0.state xs ys c p.1 p.4 in
    let e : t ≡ (rows_in p.0.batch ++ q.1) ++ q.2 = p.3 ∙ ap (λ (u : Rows). rows_in p.0.batch ++ u) q.5 ∙ sym (append_assoc (rows_in p.0.batch) q.1 q.2) in
    (q.0, rows_in p.0.batch ++ q.1, q.2, (p.0, q.1, p.2, refl, q.3), q.4, e)

-- messages say one thing at most
pub once : (a : State) (xs : List Sent) (b c : State) (r s : Rows) → Follows a xs b r → Follows a xs c s → (b ≡ c) × (r ≡ s)
once a [] b c r s p q = (p.0 ∙ sym q.0, p.1 ∙ sym q.1)
once a (x ∷ xs) b c r s p q =
    let e : p.0 ≡ q.0 = let d = p.2 in let f = q.2 in cc in
    let p2 : Follows (q.0).state xs b p.1 = subst (λ (news : News). Follows news.state xs b p.1) e p.4 in
    let rest = once (q.0).state xs b c p.1 q.1 p2 q.4 in
    let f = rest.1 in
    (rest.0, p.3 ∙ rw (e, f) (sym q.3))

-- what a reader tells extends what was said
pub extended : TellingExtends
extended (Ok batch) old sent new e = λ messages rows said.
    joined None messages (sent ∷ []) old new rows (rows_in batch) said
    (record { state = new; batch = batch }, [], e, sym (append-nil (rows_in batch)), (refl, refl))
extended (Err fault) old sent new e = λ other messages rows said end before after.
    let s = split None messages (sent ∷ []) end said after in
    let o = once None messages old s.0 rows s.1 before s.3 in
    let behind : Follows s.0 (sent ∷ []) end s.2 = s.4 in
    let good : news_of s.0 sent ≡ Ok behind.0 = behind.2 in
    let bad : news_of s.0 sent ≡ Err fault = subst (λ (x : State). news_of x sent ≡ Err fault) o.0 (e.0 other) in
    cc

-- what follows a known schema: the same schema, and a batch, if any, of columns of its types
pub record Keeps (known : Known) (news : News) : Type 0 where
  pub after : Known
  pub state : news.state ≡ Some after
  pub schema : after.schema ≡ known.schema
  pub batch : HasColumns news.batch (Some known)

batch_typed : (known : Known) (message : MessageAt) (body : List ℕ) (batch : BatchAt) → batch_sent known message body ≡ Ok batch → AreOfTypes known.schema.fields batch.columns
unfolding batch_sent
batch_typed known message body batch e =
    let fields = known.schema.fields in
    let found = λ (parts : PartsAt). columns_from fields known.dictionaries parts.rows body parts.nodes parts.places in
    let made = λ (parts : PartsAt) (columns : List ColumnAt). fine (record { columns = columns; rows = parts.rows }) in
    let a = both (batch_parts known message body) (λ (parts : PartsAt). (found parts >>= λ columns. made parts columns)) batch e in
    let b = both (found a.0) (made a.0) batch a.2 in
    let same : record { columns = b.0; rows = a.0.rows } ≡ batch = let c = b.2 in cc in
    subst (λ (x : BatchAt). AreOfTypes fields x.columns) same (columns_typed fields known.dictionaries a.0.rows body a.0.nodes a.0.places b.0 b.1)

after_keeps : (known : Known) (message : MessageAt) (body : List ℕ) (after : Known) → known_after known message body ≡ Ok after → after.schema ≡ known.schema
unfolding known_after
after_keeps known message body after e =
    let texts = λ (sent : DictionaryParts). one_texts sent.parts.rows body sent.parts.nodes sent.parts.places in
    let values = λ (sent : DictionaryParts) (cells : TextsAt). extended_by (kept_of sent.is_delta (values_under known.dictionaries sent.id)) cells in
    let made = λ (sent : DictionaryParts) (all : List Value). fine (record known { dictionaries = with_values sent.id all known.dictionaries }) in
    let a = both (dictionary_sent known message body) (λ (sent : DictionaryParts). (texts sent >>= λ cells. (values sent cells >>= λ all. made sent all))) after e in
    let b = both (texts a.0) (λ (cells : TextsAt). (values a.0 cells >>= λ all. made a.0 all)) after a.2 in
    let c = both (values a.0 b.0) (made a.0) after b.2 in
    let last : Known = record known { dictionaries = with_values a.0.id c.0 known.dictionaries } in
    let same : last ≡ after = let d = c.2 in cc in
    subst (λ (x : Known). x.schema ≡ known.schema) {x = last} same refl

next_keeps : (kind : HeaderKind) (known : Known) (message : MessageAt) (body : List ℕ) (news : News) → next_news kind known message body ≡ Ok news → Keeps known news
next_keeps header.Schema known message body news e = cc
next_keeps header.DictionaryBatch known message body news e =
    let a = both (known_after known message body) (λ (after : Known). fine (record { state = Some after; batch = None })) news e in
    let same : record { state = Some a.0; batch = None } ≡ news = let b = a.2 in cc in
    subst (Keeps known) {x = record { state = Some a.0; batch = None }} same (record { after = a.0; state = refl; schema = after_keeps known message body a.0 a.1; batch = tt })
next_keeps header.RecordBatch known message body news e =
    let a = both (batch_sent known message body) (λ (batch : BatchAt). fine (record { state = Some known; batch = Some batch })) news e in
    let same : record { state = Some known; batch = Some a.0 } ≡ news = let b = a.2 in cc in
    subst (Keeps known) {x = record { state = Some known; batch = Some a.0 }} same (record { after = known; state = refl; schema = refl; batch = batch_typed known message body a.0 a.1 })

pub keeps : (known : Known) (sent : Sent) (news : News) → news_of (Some known) sent ≡ Ok news → Keeps known news
unfolding news_of
keeps known sent news e =
    let a = both (message_of sent.header) (λ (message : MessageAt). news_in (Some known) message sent.body) news e in
    next_keeps a.0.kind known a.0 sent.body news a.2

news_first : (message : MessageAt) (body : List ℕ) (news : News) → news_in None message body ≡ Ok news → (known : Known) × (news.state ≡ Some known) × (news.batch ≡ None)
news_first message body news e =
    let start = λ (schema : Schema). fine (record { state = Some (record { schema = schema; dictionaries = [] }); batch = None }) in
    let a = both (first_schema message.kind message body) start news e in
    let same : record { state = Some (record { schema = a.0; dictionaries = [] }); batch = None } ≡ news = let d = a.2 in cc in
    (record { schema = a.0; dictionaries = [] }, sym (ap (λ (x : News). x.state) same), sym (ap (λ (x : News). x.batch) same))

pub first : (sent : Sent) (news : News) → news_of None sent ≡ Ok news → (known : Known) × (news.state ≡ Some known) × (news.batch ≡ None)
unfolding news_of
first sent news e =
    let a = both (message_of sent.header) (λ (message : MessageAt). news_in None message sent.body) news e in
    news_first a.0 sent.body news a.2

-- the columns of a batch are of the types of the schema that is known after it
typed_after : (batch : Option BatchAt) (known after : Known) → after.schema ≡ known.schema → HasColumns batch (Some known) → HasColumns batch (Some after)
typed_after None known after same has = tt
typed_after (Some batch) known after same has = subst (λ (schema : Schema). AreOfTypes schema.fields batch.columns) (sym same) has

columned : (batch : Option BatchAt) (old : State) (sent : Sent) (new : State) → news_of old sent ≡ Ok (record { state = new; batch = batch }) → HasColumns batch new
columned batch None sent new e =
    let a = first sent (record { state = new; batch = batch }) e in
    subst (λ (x : Option BatchAt). HasColumns x new) (sym a.2) tt
columned batch (Some known) sent new e =
    let k = keeps known sent (record { state = new; batch = batch }) e in
    subst (HasColumns batch) (sym k.state) (typed_after batch known k.after k.schema k.batch)

pub told_columns : (result : Result (Option BatchAt) Fault) (old : State) (sent : Sent) (new : State) → Tells result old sent new → IfOk result (λ batch. HasColumns batch new)
told_columns (Ok batch) old sent new e = columned batch old sent new e
told_columns (Err fault) old sent new e = tt

-- the rows of a batch have a value for each column
rows_wide : (width : ℕ) (batch : BatchAt) → length batch.columns ≡ width → AreWide width (rows_of batch)
rows_wide width batch e =
    All-map (λ (row : List Value). length row ≡ width) (row_of batch.columns) (range_with_len 0 batch.rows)
    (λ k d h. length-map batch.columns (λ (column : ColumnAt). slot_of column _) ∙ e)

added_wide : (batch : Option BatchAt) (known : Known) → HasColumns batch (Some known) → AreWide (length known.schema.fields) (rows_in batch)
added_wide None known has = All-nil (λ (row : List Value). length row ≡ length known.schema.fields)
added_wide (Some batch) known has = rows_wide (length known.schema.fields) batch (columns_many known.schema.fields batch.columns has)

-- the rows that follow a known schema have a value for each of its fields, and it stays
abbrev FollowsWide : Known → State → Rows → Type 0
FollowsWide known end rows = (last : Known) × (end ≡ Some last) × (last.schema ≡ known.schema) × AreWide (length known.schema.fields) rows

wide_after : (known : Known) (xs : List Sent) (end : State) (rows : Rows) → Follows (Some known) xs end rows → FollowsWide known end rows
wide_after known [] end rows p =
    (known, p.0, refl, subst (AreWide (length known.schema.fields)) (sym p.1) (All-nil (λ (row : List Value). length row ≡ length known.schema.fields)))
wide_after known (x ∷ xs) end rows p =
    let k = keeps known x p.0 p.2 in
    let q : Follows (Some k.after) xs end p.1 = subst (λ (s : State). Follows s xs end p.1) k.state p.4 in
    let rest = wide_after k.after xs end p.1 q in
    let behind : AreWide (length known.schema.fields) p.1 = subst (λ (s : Schema). AreWide (length s.fields) p.1) k.schema rest.3 in (
      rest.0,
      rest.1,
      rest.2 ∙ k.schema,
      subst (AreWide (length known.schema.fields)) (sym p.3)
          (All-append (λ (row : List Value). length row ≡ length known.schema.fields) (rows_in (p.0).batch) p.1 (added_wide (p.0).batch known k.batch) behind),
    )

-- each row that messages say has a value for each field of their schema
pub wide : RowsFitSchema
wide [] schema rows p = let a = p.2.0 in cc
wide (x ∷ xs) schema rows p =
    let s = p.2 in
    let a = first x s.0 s.2 in
    let q : Follows (Some a.0) xs (Some p.0) s.1 = subst (λ (state : State). Follows state xs (Some p.0) s.1) a.1 s.4 in
    let rest = wide_after a.0 xs (Some p.0) s.1 q in
    let same : p.0 ≡ rest.0 = let b = rest.1 in cc in
    let one : a.0.schema ≡ schema = sym rest.2 ∙ sym (ap (λ (known : Known). known.schema) same) ∙ p.1 in
    let e : rows ≡ s.1 = s.3 ∙ ap (λ (b : Option BatchAt). rows_in b ++ s.1) a.2 in
    subst (AreWide (length schema.fields)) (sym e) (subst (λ (x : Schema). AreWide (length x.fields) s.1) one rest.3)

pub say_one_thing : SayOneThing
say_one_thing messages one other rows others p q =
    let o = once None messages (Some p.0) (Some q.0) rows others p.2 q.2 in
    let e : p.0 ≡ q.0 = let f = o.0 in cc in
    (sym p.1 ∙ ap (λ (known : Known). known.schema) e ∙ q.1, o.1)

pub join_rows : JoinRows
join_rows start before behind end rows = (
  λ said. (let s = split start before behind end rows said in
      record { middle = s.0; first = s.1; then = s.2; before_says = s.3; behind_says = s.4; whole = s.5 }),
  λ both. rw both.whole (joined start before behind both.middle end both.first both.then both.before_says both.behind_says),
)
