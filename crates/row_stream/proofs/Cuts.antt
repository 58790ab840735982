-- A batch that is sent cut by cut.
use Rattle.std.proofs.Common.{◌≡◌, ◌≤◌, ℕ, zero, suc, ◌+◌, ◌-◌, List, [], ◌∷◌, ◌++◌, length, map, take, drop, Option, Err, refl, sym, ap, subst, ◌∙◌, append-nil, append_assoc, arith}
use Rattle.std.specs.List.{flat_map}
use Rattle.std.proofs.Math.Seq.{take-add}
use Rattle.std.proofs.lemmas.List.{take_all}
use Rattle.scan_base.specs.declared.fault.Fault.{Fault}
use Rattle.scan_base.specs.declared.fault.Fault.TheVariants.{LimitReached, OutOfMemory}
use Rattle.arrow_types.specs.declared.schema.Field.{Field}
use Rattle.arrow_types.specs.declared.schema.Schema.{Schema}
use Rattle.arrays.specs.Column.{ColumnAt, cut}
use Rattle.arrays.specs.Batch.{BatchAt, rows_of, cut_batch}
use Rattle.arrays.specs.TypedLayouts.{AreOfTypes}
use Rattle.arrays.proofs.Slices.{batches_keep}
use Rattle.ipc_batch.specs.SaidRows.{Rows}
use Rattle.ipc_stream.specs.Stream.{frame}
use Rattle.grpc_frame.specs.Sending.{Sent, NotSent}
use Rattle.row_stream.specs.Stream.{BreaksOff, WritesBeginning, WritesCounted, unfinished}
use Rattle.row_stream.specs.Writing.{SendsBatch, SoFar, SentBehind}
use Rattle.row_stream.specs.inside.Cuts.{IsCut, IsUncut}
use Rattle.row_stream.specs.declared.batch_cuts.CutMessages.{CutMessages}
use Rattle.row_stream.proofs.Messages.{length-rows_of}
use Rattle.row_stream.proofs.SoFar.{broken_here, went_on, stopped}

-- ---- rows of a batch

drop_none : {X : Type 0} (n : ℕ) → drop {A = X} n [] ≡ []
drop_none zero = refl
drop_none (suc n) = refl

drop_more : {X : Type 0} (a n : ℕ) (xs : List X) → drop n (drop a xs) ≡ drop (a + n) xs
drop_more zero n xs = let e : 0 + n ≡ n = omega arith in rw e refl
drop_more (suc a) n [] = drop_none n ∙ sym (drop_none (suc a + n))
drop_more (suc a) n (x ∷ xs) = let e : suc a + n ≡ suc (a + n) = omega arith in rw e (drop_more a n xs)

-- items a up to b, and then b up to c
parts_join : {X : Type 0} (a b c : ℕ) (xs : List X) → a ≤ b → b ≤ c → take (b - a) (drop a xs) ++ take (c - b) (drop b xs) ≡ take (c - a) (drop a xs)
parts_join a b c xs low high =
    let there : a + (b - a) ≡ b = omega arith in
    let long : (b - a) + (c - b) ≡ c - a = omega arith in
    sym (ap (λ n. take n (drop a xs)) (sym long) ∙ take-add (b - a) (c - b) (drop a xs)
    ∙ ap (λ rest. take (b - a) (drop a xs) ++ take (c - b) rest) (drop_more a (b - a) xs ∙ ap (λ n. drop n xs) there))

-- rows of a batch, and those after them
cuts_join : (batch : BatchAt) (from at to : ℕ) → from ≤ at → at ≤ to → to ≤ batch.rows
    → rows_of (cut_batch batch from at) ++ rows_of (cut_batch batch at to) ≡ rows_of (cut_batch batch from to)
cuts_join batch from at to low high within =
    rw (batches_keep batch from at low (omega (arith, high, within)), batches_keep batch at to high within, batches_keep batch from to (omega (arith, low, high)) within)
    (parts_join from at to (rows_of batch) low high)

-- the whole of a batch
cut_whole : (batch : BatchAt) (rows : ℕ) → rows ≡ batch.rows → rows_of (cut_batch batch 0 rows) ≡ rows_of batch
cut_whole batch rows e =
    let long : length (rows_of batch) ≤ rows - 0 = omega (arith, length-rows_of batch, e) in
    batches_keep batch 0 rows (omega arith) (omega (arith, e)) ∙ take_all (rows - 0) (rows_of batch) long

-- nothing of it
cut_none : (batch : BatchAt) → rows_of (cut_batch batch 0 0) ≡ []
cut_none batch = batches_keep batch 0 0 (omega arith) (omega arith)

-- slices of columns are of their types
pub cut_typed : (fields : List Field) (columns : List ColumnAt) (from to : ℕ) → AreOfTypes fields columns → AreOfTypes fields (map (λ column. cut column from to) columns)
cut_typed [] [] from to typed = tt
cut_typed (field ∷ fields) (column ∷ columns) from to typed = (typed.0, cut_typed fields columns from to typed.1)
cut_typed [] (column ∷ columns) from to typed = absurd typed
cut_typed (field ∷ fields) [] from to typed = absurd typed

-- ---- what was sent of it

-- the rows of a batch up to one were sent
abbrev pub SentTo : Schema → BatchAt → ℕ → Option (List ℕ) → Option (List ℕ) → List ℕ → List ℕ → Type 0
SentTo schema batch at old new before after = SentBehind schema (rows_of (cut_batch batch 0 at)) old new before after

pub sent_none : (schema : Schema) (batch : BatchAt) (old : Option (List ℕ)) (before : List ℕ) → SentTo schema batch 0 old old before before
sent_none schema batch old before rows start so =
    subst (λ (r : Rows). SoFar schema r start old before) (sym (ap (λ (l : Rows). rows ++ l) (cut_none batch) ∙ append-nil rows)) so

pub sent_all : (schema : Schema) (batch : BatchAt) (at : ℕ) (old new : Option (List ℕ)) (before after : List ℕ) → at ≡ batch.rows → SentTo schema batch at old new before after → SentBehind schema (rows_of batch) old new before after
sent_all schema batch at old new before after all sent rows start so =
    subst (λ (l : Rows). SoFar schema (rows ++ l) start new after) (cut_whole batch at all) (sent rows start so)

-- a cut more
pub sent_cut : (schema : Schema) (batch : BatchAt) (at most : ℕ) (cut : CutMessages) (a b c : Option (List ℕ)) (before mid after : List ℕ) → IsCut schema batch at most cut → SentTo schema batch at a b before mid
    → Sent b c mid after (flat_map frame cut.parcel) → SentTo schema batch cut.end a c before after
sent_cut schema batch at most cut a b c before mid after is sent more rows start so =
    let some = rows ++ rows_of (cut_batch batch 0 at) in
    let part = cut_batch batch at cut.end in
    let join : some ++ rows_of part ≡ rows ++ rows_of (cut_batch batch 0 cut.end) =
    append_assoc rows (rows_of (cut_batch batch 0 at)) (rows_of part) ∙ ap (λ (l : Rows). rows ++ l) (cuts_join batch 0 at cut.end (omega arith) (omega (arith, is.forth)) is.within) in
    subst (λ (r : Rows). SoFar schema r start c after) join
    (went_on schema some part start b c mid after (sent rows start so) cut.parcel is.says more)

-- what is left after the rows up to one
left_behind : (batch : BatchAt) (at : ℕ) (rows : Rows) → at ≤ batch.rows → rows ++ rows_of batch ≡ (rows ++ rows_of (cut_batch batch 0 at)) ++ rows_of (cut_batch batch at batch.rows)
left_behind batch at rows within =
    sym (append_assoc rows (rows_of (cut_batch batch 0 at)) (rows_of (cut_batch batch at batch.rows))
    ∙ ap (λ (l : Rows). rows ++ l) (cuts_join batch 0 at batch.rows (omega arith) within (omega arith) ∙ cut_whole batch batch.rows refl))

-- no more was sent, and the stream breaks off
pub sent_no_more : (schema : Schema) (batch : BatchAt) (at : ℕ) (a b c : Option (List ℕ)) (before mid : List ℕ) (failed failed' : ℕ) → at ≤ batch.rows → SentTo schema batch at a b before mid
    → WritesCounted b c (mid ++ unfinished) failed failed'
    → (rows : Rows) (start : Option (List ℕ)) → SoFar schema rows start a before → BreaksOff schema (rows ++ rows_of batch) start c failed failed'
sent_no_more schema batch at a b c before mid failed failed' within sent wrote rows start so =
    broken_here schema (rows ++ rows_of batch) (rows ++ rows_of (cut_batch batch 0 at)) (rows_of (cut_batch batch at batch.rows)) start b c mid failed failed' (left_behind batch at rows within) (sent rows start so) wrote

-- where no more rows were cut, that is told
pub told_uncut : (fault : Fault) (schema : Schema) (batch : BatchAt) (old new : Option (List ℕ)) (before after : List ℕ) (failed failed' : ℕ) → IsUncut schema batch fault
    → ((rows : Rows) (start : Option (List ℕ)) → SoFar schema rows start old before → BreaksOff schema (rows ++ rows_of batch) start new failed failed')
    → SendsBatch {A = Unit {0}} (Err fault) schema batch old new before after failed failed'
told_uncut OutOfMemory schema batch old new before after failed failed' why breaks = breaks
told_uncut LimitReached schema batch old new before after failed failed' why breaks = breaks
told_uncut _ schema batch old new before after failed failed' why breaks = absurd why

-- a cut more of which a write failed
pub cut_not_sent : (schema : Schema) (batch : BatchAt) (at most : ℕ) (cut : CutMessages) (a b c : Option (List ℕ)) (before mid after : List ℕ) → IsCut schema batch at most cut → SentTo schema batch at a b before mid
    → NotSent b c mid after (flat_map frame cut.parcel)
    → (rows : Rows) (start : Option (List ℕ)) → SoFar schema rows start a before → WritesBeginning schema (rows ++ rows_of batch) start c
cut_not_sent schema batch at most cut a b c before mid after is sent failed rows start so =
    let some = rows ++ rows_of (cut_batch batch 0 at) in
    let part = cut_batch batch at cut.end in
    let others = rows_of (cut_batch batch cut.end batch.rows) in
    let join : rows_of part ++ others ≡ rows_of (cut_batch batch at batch.rows) = cuts_join batch at cut.end batch.rows (omega (arith, is.forth)) is.within (omega arith) in
    let splits : rows ++ rows_of batch ≡ (some ++ rows_of part) ++ others =
    left_behind batch at rows (omega (arith, is.forth, is.within)) ∙ ap (λ (l : Rows). some ++ l) (sym join) ∙ sym (append_assoc some (rows_of part) others) in
    stopped schema (rows ++ rows_of batch) some others part start b c mid after splits (sent rows start so) cut.parcel is.says failed
