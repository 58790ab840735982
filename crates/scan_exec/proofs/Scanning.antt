-- A scan as contracts see it.
use Rattle.std.proofs.Common.{◌≡◌, ◌≤◌, ◌<◌, ◌⊎◌, inl, inr, ℕ, zero, suc, ◌+◌, ◌-◌, ◌==◌, true, List, [], ◌∷◌, ◌++◌, length, map, take, drop, get_or, Option, Some, None, option_map, Result, Ok, Err, refl, sym, ap, ◌∙◌, subst, arith, length-append, length-drop, length-take}
use Rattle.std.specs.List.{last_or, list_all, range_with_len}
use Rattle.std.proofs.lemmas.Bool.{and_parts, eqb-true}
use Rattle.std.proofs.lemmas.List.{map-append, length-map, take_all}
use Rattle.std.proofs.lemmas.List.FromFn.{length-range_with_len}
use Rattle.std.proofs.lemmas.Simd.{map-map}
use Rattle.arrow_types.specs.declared.schema.Schema.{Schema}
use Rattle.arrow_types.specs.declared.data_type.DataType.{DataType}
use Rattle.arrays.specs.Batch.{BatchAt, rows_of}
use Rattle.scan_base.specs.Limits.{most_answer_rows}
use Rattle.scan_base.specs.declared.fault.Fault.{Fault}
use Rattle.scan_base.specs.declared.fault.Fault.TheVariants.{OutOfMemory, ResultTooLarge}
use Rattle.table_versions.specs.Table.{Row}
use Rattle.table_versions.proofs.Rowing.{length-rows_of}
use Rattle.row_sources.specs.declared.piece.Piece.{Piece}
use Rattle.std.specs.declared.alloc.AllocError.{AllocError}
use Rattle.scan_exec.specs.Giving.{GivingAt, GivingOn, IsOfLast, GivesBatch, GivesNone, AnswerGivesNoneYet, MakesReady, of_rows}
use Rattle.scan_exec.specs.Answering.{CountsNext, CountsTurn, IsScan, table_number, renumbered, scan_at}
use Rattle.row_sources.specs.Running.{RowsAt, FindsPiece, FindsNone, Ends, LooksOn}
use Rattle.row_sources.specs.declared.turn.Patience.{Patience}
use Rattle.row_sources.specs.declared.turn.Turn.{Turn}
use Rattle.row_sources.specs.declared.turn.Turn.TheVariants.{Given, Working, End}
use Rattle.scan_exec.specs.Scan.{ScanAt, Continues, IsLatest, GivesRows, GivesTurn, IsReadied, MayRefuse, Gives}
use Rattle.scan_exec.specs.Scan as of_scan
use Rattle.row_sources.proofs.JoinSteps.{as_many}

-- a piece is a batch
pub gives_of : (before after : RowsAt) (piece : Piece) → FindsPiece before piece after → GivesBatch (of_rows before) piece.batch (of_rows after)
gives_of before after piece finds =
    let show : ℕ × Row → Option ℕ × Row = λ row. (Some row.0, row.1) in
    let with_number : Row → ℕ × Row = λ row. (piece.number, row) in
    record {
      number = Some piece.number;
      next = ap (map show) finds.next ∙ map-append show (map with_number (rows_of piece.batch)) after.ahead
          ∙ ap (λ (some : List (Option ℕ × Row)). some ++ map show after.ahead) (map-map show with_number (rows_of piece.batch));
      latest = finds.latest;
      some = finds.some;
      few = finds.few;
      typed = finds.typed;
      on = record { types = finds.on.types; batches = finds.on.batches; opening = finds.on.opening; opened = finds.on.opened };
    }

-- none of the rows that were looked at
pub none_yet_of : (before after : RowsAt) → FindsNone before after → AnswerGivesNoneYet (of_rows before) (of_rows after)
none_yet_of before after finds = record {
  same = ap (map (λ (row : ℕ × Row). (Some row.0, row.1))) finds.same;
  on = record { types = finds.on.types; batches = finds.on.batches; opening = finds.on.opening; opened = finds.on.opened };
}

-- no row is left
pub none_of : (before after : RowsAt) → Ends before after → GivesNone (of_rows before) (of_rows after)
none_of before after ends = record {
  none = ap (map (λ (row : ℕ × Row). (Some row.0, row.1))) ends.none;
  still = ap (map (λ (row : ℕ × Row). (Some row.0, row.1))) ends.still;
  all = ends.all;
  on = record { types = ends.on.types; batches = ends.on.batches; opening = ends.on.opening; opened = ends.on.opened };
}

-- ---- what was opened

-- a beginning begins a list, and a longer beginning
begin_whole : {X : Type 0} (n : ℕ) (xs : List X) → take (length (take n xs)) xs ≡ take n xs
begin_whole zero xs = refl
begin_whole (suc n) [] = refl
begin_whole (suc n) (x ∷ xs) = ap (λ rest. x ∷ rest) (begin_whole n xs)

begin_longer : {X : Type 0} (n m : ℕ) (xs : List X) → n ≤ m → take (length (take n xs)) (take m xs) ≡ take n xs
begin_longer zero m xs h = refl
begin_longer (suc n) zero xs h = absurd (omega (arith, h))
begin_longer (suc n) (suc m) [] h = refl
begin_longer (suc n) (suc m) (x ∷ xs) h = ap (λ rest. x ∷ rest) (begin_longer n m xs (omega (arith, h)))

-- the last of a beginning
last_taken : (before : Option (ℕ × ℕ)) (xs : List (ℕ × ℕ)) (further i : ℕ) → further + i < length xs →
    last_or before (take (further + (i + 1)) xs) ≡ Some (get_or (drop further xs) i (0, 0))
last_taken before [] further i h = absurd (omega (arith, h))
last_taken before (x ∷ xs) zero zero h = refl
last_taken before (x ∷ xs) zero (suc i) h =
    let e : zero + (suc i + 1) ≡ suc (zero + (i + 1)) = omega arith in
    ap (λ (n : ℕ). last_or before (take n (x ∷ xs))) e ∙ last_taken (Some x) xs zero i (omega (arith, h))
last_taken before (x ∷ xs) (suc further) i h =
    let e : suc further + (i + 1) ≡ suc (further + (i + 1)) = omega arith in
    ap (λ (n : ℕ). last_or before (take n (x ∷ xs))) e ∙ last_taken (Some x) xs further i (omega (arith, h))

-- the last of numbers that are counted
last_counted : (before : Option ℕ) (first n number : ℕ) → last_or before (range_with_len first (n + 1)) ≡ Some number → number ≡ first + n
last_counted before first zero number e = let same : first ≡ number = cc in omega (arith, same)
last_counted before first (suc n) number e =
    let shift : suc n + 1 ≡ suc (n + 1) = omega arith in
    omega (arith, last_counted (Some first) (first + 1) n number (ap (λ (m : ℕ). last_or before (range_with_len first m)) (sym shift) ∙ e))

take_counted : (first n k : ℕ) → k ≤ n → take k (range_with_len first n) ≡ range_with_len first k
take_counted first n zero h = refl
take_counted first zero (suc k) h = absurd (omega (arith, h))
take_counted first (suc n) (suc k) h = ap (λ rest. first ∷ rest) (take_counted (first + 1) n k (omega (arith, h)))

-- a batch of the first place
first_place : (firsts : List (ℕ × ℕ)) (i : ℕ) → i < length firsts → list_all (λ (batch : ℕ × ℕ). batch.0 == 0) firsts ≡ true →
    get_or firsts i (0, 0) ≡ (0, table_number firsts i)
first_place [] i h all = absurd (omega (arith, h))
first_place (batch ∷ firsts) zero h all =
    let zero_is = eqb-true batch.0 0 (and_parts (batch.0 == 0) (list_all (λ (b : ℕ × ℕ). b.0 == 0) firsts) all).0 in
    ap (λ (place : ℕ). (place, batch.1)) zero_is
first_place (batch ∷ firsts) (suc i) h all =
    first_place firsts i (omega (arith, h)) (and_parts (batch.0 == 0) (list_all (λ (b : ℕ × ℕ). b.0 == 0) firsts) all).1

-- ---- a step of a scan

module _ (schema : Schema) (batches : List (ℕ × ℕ)) (further : ℕ) (before after : GivingAt) (given now : ℕ) (is : IsScan before batches further given) where
  abbrev firsts : List (ℕ × ℕ)
  firsts = drop further batches

  abbrev count : ℕ
  count = length batches - further

  continues : GivingOn before after → (was refused : Option Fault) → Continues (scan_at schema before batches further given was) (scan_at schema after batches further now refused)
  continues on was refused = record {
    schema = refl;
    types = on.types;
    batches = refl;
    opening = begin_longer (further + length before.opened) (further + length after.opened) batches (omega (arith, grown));
    opened = begin_whole (further + length after.opened) batches;
  }
    where
      grown : length before.opened ≤ length after.opened
      grown = omega (arith, ap length on.opening, length-take (length before.opened) after.opened)

  -- the batches that were opened are counted
  counted : GivingOn before after → (after.opened ≡ range_with_len 0 (length after.opened)) × (length after.opened ≤ count)
  counted on =
      let all : after.batches ≡ range_with_len 0 count = on.batches ∙ is.first in
      let some : take (length after.opened) (range_with_len 0 count) ≡ after.opened =
      ap (take (length after.opened)) (sym all) ∙ on.opened in
      let few : length after.opened ≤ count =
      omega (arith, ap length some, length-take (length after.opened) (range_with_len 0 count), length-range_with_len 0 count) in
      (sym some ∙ take_counted 0 count (length after.opened) few, few)

  is_latest : GivingOn before after → (number : Option ℕ) → IsOfLast number after.opened →
      IsLatest (option_map (table_number firsts) number) (take (further + length after.opened) batches)
  is_latest on None of = tt
  is_latest on (Some number) of = by (length after.opened) refl
    where
      size : length firsts ≡ count
      size = length-drop further batches

      by : (n : ℕ) → length after.opened ≡ n → last_or None (take (further + length after.opened) batches) ≡ Some (0, table_number firsts number)
      by zero e =
          let none : after.opened ≡ [] = (counted on).0 ∙ ap (range_with_len 0) e in
          let no : None ≡ Some number = ap (last_or None) (sym none) ∙ of in
          cc
      by (suc n) e =
          let more : length after.opened ≡ n + 1 = omega (arith, e) in
          let which : number ≡ 0 + n = last_counted None 0 n number (ap (last_or None) (sym ((counted on).0 ∙ ap (range_with_len 0) more)) ∙ of) in
          let here : further + n < length batches = omega (arith, more, (counted on).1, is.there) in
          let at : n ≡ number = omega (arith, which) in
          ap (λ (m : ℕ). last_or None (take (further + m) batches)) more
          ∙ last_taken None batches further n here
          ∙ ap Some (first_place firsts n (omega (arith, size, here)) is.places ∙ ap (λ (i : ℕ). (0, table_number firsts i)) at)

  pub gives_rows : (batch : BatchAt) → CountsNext before given (Ok (Some batch)) after now →
      GivesRows (scan_at schema before batches further given None) batch (scan_at schema after batches further now None)
  gives_rows batch counts =
      let gives = counts.0 in
      let with_number : Row → Option ℕ × Row = λ row. (gives.number, row) in
      record {
        number = option_map (table_number firsts) gives.number;
        next = ap (map (renumbered firsts)) gives.next ∙ map-append (renumbered firsts) (map with_number (rows_of batch)) after.ahead
            ∙ ap (λ (some : List (Option ℕ × Row)). some ++ map (renumbered firsts) after.ahead) (map-map (renumbered firsts) with_number (rows_of batch));
        latest = is_latest gives.on gives.number gives.latest;
        some = gives.some;
        few = gives.few;
        wide = as_many before.types batch.columns gives.typed;
        typed = gives.typed;
        counted = counts.1;
        within = counts.2;
        on = continues gives.on None None;
        refused = refl;
      }

  ends_is : GivesNone before after → now ≡ given →
      scan_at schema after batches further now None ≡ record (scan_at schema before batches further given None) { opened = batches; unseen = after.unseen }
  ends_is ends same =
      let made : List DataType → List (Option ℕ × Row) → List (ℕ × ℕ) → ℕ → ScanAt = λ types ahead opened given.
      record { schema = schema; types = types; ahead = map (renumbered firsts) ahead; batches = batches; opened = opened; given = given; refused = None; unseen = after.unseen } in
      let size : length after.opened ≡ count = ap length (ends.all ∙ is.first) ∙ length-range_with_len 0 count in
      let whole : take (further + length after.opened) batches ≡ batches = take_all (further + length after.opened) batches (omega (arith, size)) in
      ap (λ (types : List DataType). made types after.ahead (take (further + length after.opened) batches) now) ends.on.types
      ∙ ap (λ (ahead : List (Option ℕ × Row)). made before.types ahead (take (further + length after.opened) batches) now) (ends.still ∙ sym ends.none)
      ∙ ap (λ (opened : List (ℕ × ℕ)). made before.types before.ahead opened now) whole
      ∙ ap (made before.types before.ahead batches) same

  -- what a call gives
  pub gave : (view : ScanAt) (refused : Option Fault) (found : Option BatchAt) → scan_at schema before batches further given refused ≡ view → refused ≡ None →
      CountsNext before given (Ok found) after now → Gives view (Ok found) (scan_at schema after batches further now refused)
  gave view refused (Some batch) v n counts =
      subst (λ (s : ScanAt). Gives s (Ok (Some batch)) (scan_at schema after batches further now refused)) v
      (subst (λ (r : Option Fault). Gives (scan_at schema before batches further given r) (Ok (Some batch)) (scan_at schema after batches further now r)) (sym n)
      (gives_rows batch counts))
  gave view refused None v n counts =
      subst (λ (s : ScanAt). Gives s (Ok None) (scan_at schema after batches further now refused)) v
      (subst (λ (r : Option Fault). Gives (scan_at schema before batches further given r) (Ok None) (scan_at schema after batches further now r)) (sym n)
      (ap (map (renumbered firsts)) counts.0.none, ends_is counts.0 counts.1))

  -- nothing yet
  gave_none_yet : (view : ScanAt) (refused : Option Fault) → scan_at schema before batches further given refused ≡ view → refused ≡ None →
      AnswerGivesNoneYet before after → now ≡ given →
      (view.refused ≡ None) × of_scan.GivesNoneYet view (scan_at schema after batches further now refused)
  gave_none_yet view refused v n none e =
      subst (λ (s : ScanAt). (s.refused ≡ None) × of_scan.GivesNoneYet s (scan_at schema after batches further now refused)) v
      (n, record { same = ap (map (renumbered firsts)) none.same; given = e; on = continues none.on refused refused; refused = n })

  -- what is made before the first row
  pub readied : (view : ScanAt) (refused : Option Fault) → scan_at schema before batches further given refused ≡ view → AnswerGivesNoneYet before after → now ≡ given →
      IsReadied view (scan_at schema after batches further now refused)
  readied view refused v none e =
      subst (λ (s : ScanAt). IsReadied s (scan_at schema after batches further now refused)) v
      (record { same = ap (map (renumbered firsts)) none.same; given = e; on = continues none.on refused refused; refused = refl })

  -- what a turn gives
  pub turned : (patience : Patience) (view : ScanAt) (refused : Option Fault) (found : Turn BatchAt) →
      scan_at schema before batches further given refused ≡ view → refused ≡ None →
      CountsTurn patience before given (Ok found) after now → GivesTurn patience view (Ok found) (scan_at schema after batches further now refused)
  turned patience view refused (Given batch) v n counts = gave view refused (Some batch) v n counts
  turned patience view refused Working v n counts =
      let yet = gave_none_yet view refused v n counts.0 counts.1 in
      (yet.0, yet.1, subst (λ (s : ScanAt). LooksOn patience s.unseen after.unseen) v counts.2)
  turned patience view refused End v n counts = gave view refused None v n counts

  pub refuses : (view : ScanAt) (refused : Option Fault) (fault : Fault) → scan_at schema before batches further given refused ≡ view → refused ≡ None →
      CountsNext before given (Err fault) after now → Gives view (Err fault) (scan_at schema after batches further now (Some fault))
  refuses view refused fault v n counts =
      subst (λ (s : ScanAt). Gives s (Err fault) (scan_at schema after batches further now (Some fault))) v
      (subst (λ (r : Option Fault). Gives (scan_at schema before batches further given r) (Err fault) (scan_at schema after batches further now (Some fault))) (sym n)
      (may counts.2, refl, continues counts.0 None (Some fault)))
    where
      -- as many rows are to come, whatever their numbers
      may : (fault ≡ OutOfMemory) ⊎ ((fault ≡ ResultTooLarge) × (most_answer_rows < given + length before.ahead)) →
          MayRefuse (scan_at schema before batches further given None) fault
      may (inl memory) = inl memory
      may (inr large) = inr (large.0, omega (arith, large.1, length-map before.ahead (renumbered firsts)))

  -- what holds afterwards
  pub still_scan : GivingOn before after → now ≤ most_answer_rows → IsScan after batches further now
  still_scan on few = record {
    there = is.there;
    first = on.batches ∙ is.first;
    places = is.places;
    others = is.others;
    rising = is.rising;
    front = on.opened;
    few = few;
  }

-- what is made before the first row goes on over the same batches
pub ready_on : (before after : GivingAt) (result : Result (Unit {0}) AllocError) → MakesReady before result after → GivingOn before after
ready_on before after (Ok _) ready = ready.on
ready_on before after (Err refused) on = on

-- a batch has no more rows than there are to be given
pub batch_few : (before : GivingAt) (batch : BatchAt) (after : GivingAt) → GivesBatch before batch after → batch.rows ≤ length before.ahead
batch_few before batch after gives =
    let with_number : Row → Option ℕ × Row = λ row. (gives.number, row) in
    let long = ap length gives.next in
    let both = length-append (map with_number (rows_of batch)) after.ahead in
    let size = length-map (rows_of batch) with_number in
    omega (arith, long, both, size, length-rows_of batch)

-- no more were opened than there are
pub opened_few : (giving : GivingAt) (batches : List (ℕ × ℕ)) (further given : ℕ) → IsScan giving batches further given → further + length giving.opened ≤ length batches
opened_few giving batches further given is =
    let count = length batches - further in
    let some = ap length is.front in
    let all = ap length is.first in
    omega (arith, some, all, length-take (length giving.opened) giving.batches, length-range_with_len 0 count, is.there)
