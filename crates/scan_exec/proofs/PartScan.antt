-- The morsels of a scan.
use Rattle.std.proofs.Common.{◌≡◌, ◌≤◌, ◌<◌, ℕ, zero, suc, ◌+◌, ◌-◌, ◌==◌, Bool, true, false, cond, List, [], ◌∷◌, ◌++◌, length, map, take, drop, get_or, Option, Some, None, refl, sym, ap, ◌∙◌, subst, arith, length-append, length-drop}
use Rattle.std.specs.List.{filter, flat_map, list_all, range_with_len}
use Rattle.std.proofs.lemmas.Bool.{and_parts}
use Rattle.std.proofs.lemmas.List.{take-append-drop}
use Rattle.std.proofs.lemmas.List.Elements.{filter-append}
use Rattle.std.proofs.lemmas.Simd.{map-map}
use Rattle.arrow_types.specs.declared.schema.Schema.{Schema}
use Rattle.batch_skipping.specs.OpenedBatches.{first_numbers, numbered_batches}
use Rattle.scan_base.specs.declared.fault.Fault.{Fault}
use Rattle.scan_base.specs.Predicate.{Pred}
use Rattle.table_versions.specs.StoredTables.{TableAt}
use Rattle.table_versions.specs.Table.{Row}
use Rattle.typed_plan.specs.declared.plan.Columns.{Columns}
use Rattle.scan_exec.specs.Giving.{GivingAt, of_rows}
use Rattle.scan_exec.specs.Answering.{IsScan, Rise, table_number, renumbered, scan_at}
use Rattle.scan_exec.specs.Morsels.{HasMorsels, batch_of, comes_of, morsel_of, of_first}
use Rattle.row_sources.specs.Parting.{ComeInOrder, of_number, part_of}
use Rattle.row_sources.specs.Running.{RowsAt}
use Rattle.scan_exec.specs.Scan.{ScanAt}
use Rattle.row_sources.proofs.ByNumber.{map-flat_map, ne-eqb, same_lists}
use Rattle.scan_exec.proofs.RisingNumbers.{named, named_of, named_one, range_rises, rise_once}
use Rattle.scan_exec.proofs.Scanning.{opened_few}

-- ---- batches of the first place

all_first : (batches : List (ℕ × ℕ)) → list_all (λ (batch : ℕ × ℕ). batch.0 == 0) batches ≡ true → of_first batches ≡ batches
all_first [] all = refl
all_first (batch ∷ batches) all =
    let both = and_parts (batch.0 == 0) (list_all (λ (b : ℕ × ℕ). b.0 == 0) batches) all in
    rw (both.0, all_first batches both.1) refl

pub none_from_nothing : {X : Type 0} (xs : List X) → length xs ≡ 0 → xs ≡ []
none_from_nothing [] e = refl
none_from_nothing (x ∷ xs) e = absurd (omega (arith, e))

-- those before them are of further places
before_none : (batches : List (ℕ × ℕ)) (further : ℕ) → of_first batches ≡ drop further batches →
    list_all (λ (batch : ℕ × ℕ). batch.0 == 0) (drop further batches) ≡ true → of_first (take further batches) ≡ []
before_none batches further others places =
    let is_first : ℕ × ℕ → Bool = λ batch. batch.0 == 0 in
    let whole = ap of_first (sym (take-append-drop further batches)) ∙ filter-append is_first (take further batches) (drop further batches)
    ∙ ap (λ some. of_first (take further batches) ++ some) (all_first (drop further batches) places) in
    let size = ap length (sym whole ∙ others) in
    none_from_nothing (of_first (take further batches)) (omega (arith, size, length-append (of_first (take further batches)) (drop further batches)))

-- one of the first place after them is opened where more are
taken_more : (batches : List (ℕ × ℕ)) (further n : ℕ) → further + n ≤ length batches → list_all (λ (batch : ℕ × ℕ). batch.0 == 0) (drop further batches) ≡ true →
    of_first (take (further + n) batches) ≡ [] → n ≡ 0
taken_more [] zero n few places none = omega (arith, few)
taken_more [] (suc further) n few places none = omega (arith, few)
taken_more (batch ∷ batches) zero zero few places none = refl
taken_more (batch ∷ batches) zero (suc n) few places none =
    let first = (and_parts (batch.0 == 0) (list_all (λ (b : ℕ × ℕ). b.0 == 0) batches) places).0 in
    let e : zero + suc n ≡ suc n = omega arith in
    let no : of_first (batch ∷ take n batches) ≡ [] = ap (λ (m : ℕ). of_first (take m (batch ∷ batches))) (sym e) ∙ none in
    let some : batch ∷ of_first (take n batches) ≡ [] = rw first at no in
    absurd (omega (arith, ap length some))
taken_more (batch ∷ batches) (suc further) n few places none =
    let e : suc further + n ≡ suc (further + n) = omega arith in
    let no : of_first (batch ∷ take (further + n) batches) ≡ [] = ap (λ (m : ℕ). of_first (take m (batch ∷ batches))) (sym e) ∙ none in
    taken_more batches further n (omega (arith, few)) places (behind batch (take (further + n) batches) no)
  where
    behind : (batch : ℕ × ℕ) (rest : List (ℕ × ℕ)) → of_first (batch ∷ rest) ≡ [] → of_first rest ≡ []
    behind batch rest none =
        none_from_nothing (of_first rest) (by (batch.0 == 0) none)
      where
        by : (b : Bool) → cond b (batch ∷ of_first rest) (of_first rest) ≡ [] → length (of_first rest) ≡ 0
        by true e = absurd (omega (arith, ap length e))
        by false e = ap length e

-- ---- a scan of rows

module _ (schema : Schema) (rows : RowsAt) (batches : List (ℕ × ℕ)) (further given : ℕ) (refused : Option Fault) (is : IsScan (of_rows rows) batches further given)
    (none : rows.opened ≡ []) (order : ComeInOrder rows) where
  abbrev firsts : List (ℕ × ℕ)
  firsts = drop further batches

  abbrev name : ℕ → ℕ
  name = table_number firsts

  abbrev scan : ScanAt
  scan = scan_at schema (of_rows rows) batches further given refused

  -- rows by the numbers of their batches in the table
  ahead_is : scan.ahead ≡ named name rows.ahead
  ahead_is = map-map (renumbered firsts) (λ (row : ℕ × Row). (Some row.0, row.1)) rows.ahead

  many : length firsts ≡ length batches - further
  many = length-drop further batches

  in_order : rows.ahead ≡ flat_map (λ number. of_number number rows.ahead) (range_with_len 0 (length firsts))
  in_order = order none ∙ ap (λ (numbers : List ℕ). flat_map (λ number. of_number number rows.ahead) numbers)
      (is.first ∙ ap (range_with_len 0) (sym many))

  batch_is : (number : ℕ) → batch_of scan number ≡ name number
  batch_is number = ap (λ (some : List (ℕ × ℕ)). (get_or some number (0, 0)).1) is.others

  -- the rows of a morsel
  morsel_ahead : (number : ℕ) → number < length firsts → (morsel_of scan number).ahead ≡ named name (of_number number rows.ahead)
  morsel_ahead number there =
      ap (λ (batch : ℕ). filter (λ (row : Option ℕ × Row). comes_of batch row.0) scan.ahead) (batch_is number)
      ∙ ap (filter (λ (row : Option ℕ × Row). comes_of (name number) row.0)) ahead_is
      ∙ named_of name (length firsts) number there (λ i j here low same. rise_once 0 firsts i j is.rising here low same) rows.ahead in_order

  all_morsels : scan.ahead ≡ flat_map (λ number. (morsel_of scan number).ahead) (range_with_len 0 (length firsts))
  all_morsels =
      ahead_is ∙ ap (named name) in_order
      ∙ map-flat_map (λ (row : ℕ × Row). (Some (name row.0), row.1)) (λ number. of_number number rows.ahead) (range_with_len 0 (length firsts))
      ∙ same_lists (λ number. named name (of_number number rows.ahead)) (λ number. (morsel_of scan number).ahead) 0 (length firsts)
      (λ number low high. sym (morsel_ahead number (omega (arith, high))))

  pub has_morsels : given ≡ 0 → refused ≡ None → (count : ℕ) → count ≡ length batches - further → HasMorsels scan count
  has_morsels given_none refused_none count size =
      let same : length firsts ≡ count = many ∙ sym size in
      let all = subst (λ (n : ℕ). scan.ahead ≡ flat_map (λ number. (morsel_of scan number).ahead) (range_with_len 0 n)) same all_morsels in
      let front : further + length rows.opened ≡ further = omega (arith, ap length none) in
      record {
        each = sym same ∙ ap length (sym is.others);
        ahead = all;
        rows = ap (map (λ (row : Option ℕ × Row). row.1)) all
            ∙ map-flat_map (λ (row : Option ℕ × Row). row.1) (λ number. (morsel_of scan number).ahead) (range_with_len 0 count);
        unopened = ap (λ (n : ℕ). of_first (take n batches)) front ∙ before_none batches further is.others is.places;
        given = given_none;
        refused = refused_none;
      }

  -- a morsel as a scan
  pub morsel_is : (number : ℕ) → number < length firsts → (part : RowsAt) → part ≡ part_of number part.unseen rows →
      (pairs : List (ℕ × ℕ)) → pairs ≡ (0, name number) ∷ [] → (own : Schema) → own ≡ schema →
      scan_at own (of_rows part) pairs 0 0 None ≡ record (morsel_of scan number) { unseen = part.unseen }
  morsel_is number there part p pairs q own s =
      let made : List (ℕ × ℕ) → List (Option ℕ × Row) → ScanAt = λ some ahead. record scan { ahead = ahead; batches = some; opened = []; given = 0; refused = None; unseen = part.unseen } in
      let renamed : ℕ × Row → ℕ × Row = λ row. (0, row.1) in
      let one : List (ℕ × ℕ) = (0, name number) ∷ [] in
      ap (λ (r : RowsAt). scan_at own (of_rows r) pairs 0 0 None) p
      ∙ ap (λ (some : List (ℕ × ℕ)). scan_at own (of_rows (part_of number part.unseen rows)) some 0 0 None) q
      ∙ ap (λ (x : Schema). scan_at x (of_rows (part_of number part.unseen rows)) one 0 0 None) s
      ∙ ap (made one)
      (map-map (renumbered one) (λ (row : ℕ × Row). (Some row.0, row.1)) (map renamed (of_number number rows.ahead))
      ∙ map-map (λ (row : ℕ × Row). (Some (table_number one row.0), row.1)) renamed (of_number number rows.ahead)
      ∙ named_one name number rows.ahead ∙ sym (morsel_ahead number there))
      ∙ ap (λ (batch : ℕ). made ((0, batch) ∷ []) (morsel_of scan number).ahead) (sym (batch_is number))

-- what holds of a morsel
pub morsel_scan : (part rows : RowsAt) (number batch : ℕ) (pairs : List (ℕ × ℕ)) → part ≡ part_of number part.unseen rows → pairs ≡ (0, batch) ∷ [] → IsScan (of_rows part) pairs 0 0
morsel_scan part rows number batch pairs p q =
    subst (λ (r : RowsAt). IsScan (of_rows r) pairs 0 0) (sym p)
    (subst (λ (some : List (ℕ × ℕ)). IsScan (of_rows (part_of number part.unseen rows)) some 0 0) (sym q) (record {
      there = omega arith;
      first = refl;
      places = refl;
      others = refl;
      rising = (omega arith, tt);
      front = refl;
      few = omega arith;
    }))

-- no batch of the first place was opened
pub none_opened : (giving : GivingAt) (batches : List (ℕ × ℕ)) (further given : ℕ) → IsScan giving batches further given →
    of_first (take (further + length giving.opened) batches) ≡ [] → giving.opened ≡ []
none_opened giving batches further given is none =
    none_from_nothing giving.opened (taken_more batches further (length giving.opened) (opened_few giving batches further given is) is.places none)

-- ---- before the first batch

pub further_none : (place : ℕ) (lists : List (List ℕ)) → of_first (numbered_batches (suc place) lists) ≡ []
further_none place [] = refl
further_none place (numbers ∷ lists) =
    let next : suc place + 1 ≡ suc (suc place) = omega arith in
    filter-append (λ (batch : ℕ × ℕ). batch.0 == 0) (map (λ batch. (suc place, batch)) numbers) (numbered_batches (suc place + 1) lists)
    ∙ ap (λ some. some ++ of_first (numbered_batches (suc place + 1) lists)) (none place numbers)
    ∙ ap (λ (n : ℕ). of_first (numbered_batches n lists)) next ∙ further_none (suc place) lists
  where
    none : (place : ℕ) (numbers : List ℕ) → of_first (map (λ batch. (suc place, batch)) numbers) ≡ []
    none place [] = refl
    none place (number ∷ numbers) = rw (ne-eqb (suc place) 0 (λ e. omega (arith, e))) (none place numbers)

pub firsts_rise : (parts : List (Pred ℕ)) (from to : ℕ) (scans : List Columns) (tables : List TableAt) → Rise 0 (first_numbers parts from to scans tables)
firsts_rise parts from to [] tables = tt
firsts_rise parts from to (columns ∷ scans) [] = tt
firsts_rise parts from to (columns ∷ scans) (table ∷ tables) = range_rises _ 0 (length table.batches)
