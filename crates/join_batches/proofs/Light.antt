-- Texts that are light, of fewer rows too.
use Rattle.std.proofs.Common.{◌≡◌, ◌≤◌, ◌<◌, ◌^◌, ℕ, ◌+◌, Bool, true, if◌then◌else◌, nat_le, All, Result, Ok, Err, IfOk, List, [], length, take, get_or, ap, sym, ◌∙◌, arith, length-take, subst}
use Rattle.std.specs.declared.alloc.AllocError.{AllocError}
use Rattle.std.proofs.lemmas.Bool.{leb-true}
use Rattle.std.proofs.lemmas.List.{length-map, take-map, take-take}
use Rattle.std.proofs.lemmas.List.Elements.{All-push, All-weaker}
use Rattle.scan_base.specs.declared.value.Value.{Value}
use Rattle.scan_base.specs.Predicate.{cell_in}
use Rattle.arrays.specs.WrittenSlots.{texts_joined}
use Rattle.array_select.specs.Fitting.{has_texts, AreLight}
use Rattle.array_select.specs.Room.{allowed, most_batch_texts}
use Rattle.array_select.proofs.Light.{few_light, lighter}
use Rattle.hash_join.specs.declared.pair.Pair.{Pair}
use Rattle.join_batches.specs.declared.batch_sides.BatchSides.{BatchSides}
use Rattle.join_batches.specs.Rows.{pair_row}
use Rattle.join_batches.specs.BatchSides.{rows_at, cells_of, type_in, AreLightIn, FitsIn, AllFit}
use Rattle.join_batches.proofs.Typed.{taken_more}

-- the cells of fewer rows
first_cells : (sides : BatchSides) (pairs : List Pair) (number n : ℕ) →
    take n (cells_of (rows_at sides pairs) number) ≡ cells_of (rows_at sides (take n pairs)) number
first_cells sides pairs number n =
    take-map (λ (row : List Value). cell_in row number) n (rows_at sides pairs)
    ∙ ap (λ (rows : List (List Value)). cells_of rows number) (take-map (pair_row sides.rights.now sides.left.now) n pairs)

taken : (sides : BatchSides) (pairs : List Pair) (number n count : ℕ) → n ≤ count →
    take n (cells_of (rows_at sides (take count pairs)) number) ≡ cells_of (rows_at sides (take n pairs)) number
taken sides pairs number n count h =
    first_cells sides (take count pairs) number n ∙ ap (λ (some : List Pair). cells_of (rows_at sides some) number) (take-take n count pairs h)

-- one column more, which may leave fewer rows
pub fit_more : (sides : BatchSides) (share : ℕ) (pairs : List Pair) (shown : List ℕ) (i number count fewer : ℕ) → i < length shown → number ≡ get_or shown i 0 →
    AllFit sides share pairs (take i shown) count → FitsIn sides share (take count pairs) number fewer → AllFit sides share pairs (take (i + 1) shown) fewer
fit_more sides share pairs shown i number count fewer low is fit fits =
    let size = length-take count pairs in
    let within = fits.within in
    let less : fewer ≤ count = omega (arith, within, size) in
    let few = fit.within in
    record {
      some = fits.some;
      within = omega (arith, less, few);
      light = subst (All (AreLightIn sides share (take fewer pairs))) (sym (taken_more shown i number low is))
          (All-push (AreLightIn sides share (take fewer pairs)) (take i shown) number
          (All-weaker (AreLightIn sides share (take count pairs)) (AreLightIn sides share (take fewer pairs))
          (λ k light. subst (AreLight (allowed share (type_in sides k))) (taken sides pairs k fewer count less)
          (lighter (allowed share (type_in sides k)) fewer (cells_of (rows_at sides (take count pairs)) k) light))
          (take i shown) fit.light)
          (subst (λ (some : List Pair). AreLightIn sides share some number) (take-take fewer count pairs less) fits.light));
    }

-- how many cells a column of rows has
cells_long : (sides : BatchSides) (pairs : List Pair) (number : ℕ) → length (cells_of (rows_at sides pairs) number) ≡ length pairs
cells_long sides pairs number =
    length-map (rows_at sides pairs) (λ (row : List Value). cell_in row number) ∙ length-map pairs (pair_row sides.rights.now sides.left.now)

-- of so many rows the texts were counted
pub counted_fit : (sides : BatchSides) (share : ℕ) (pairs : List Pair) (number count : ℕ) (fit : Bool) → share ≤ most_batch_texts → has_texts (type_in sides number) ≡ true →
    0 < count → count ≤ length pairs → fit ≡ nat_le (length (texts_joined (cells_of (rows_at sides (take count pairs)) number))) share → fit ≡ true →
    FitsIn sides share pairs number count
counted_fit sides share pairs number count fit low texts some within is holds =
    let cells = cells_of (rows_at sides (take count pairs)) number in
    let few : length (texts_joined cells) ≤ share = leb-true (length (texts_joined cells)) share (sym is ∙ holds) in
    record {
      some = some;
      within = within;
      light = subst (λ (most : ℕ). AreLight most cells) (sym (ap (λ (b : Bool). if b then share else 0) texts)) (few_light share cells low few);
    }

-- one row fits where offsets name each byte of its text
one_fits : (sides : BatchSides) (share : ℕ) (pairs : List Pair) (number count : ℕ) → count ≡ 1 → 0 < length pairs →
    length (texts_joined (cells_of (rows_at sides (take 1 pairs)) number)) < 2 ^ 31 → FitsIn sides share pairs number count
one_fits sides share pairs number count is some named =
    let size = cells_long sides (take 1 pairs) number in
    let few = length-take 1 pairs in
    subst (FitsIn sides share pairs number) (sym is) (record {
      some = omega arith;
      within = omega (arith, some);
      light = record { named = named; light = λ many. absurd (omega (arith, many, size, few)) };
    })

-- offsets name each byte of their texts
pub all_named : (sides : BatchSides) (share : ℕ) (pairs : List Pair) (shown : List ℕ) → All (AreLightIn sides share pairs) shown →
    All (λ number. length (texts_joined (cells_of (rows_at sides pairs) number)) < 2 ^ 31) shown
all_named sides share pairs shown light =
    All-weaker (AreLightIn sides share pairs) (λ number. length (texts_joined (cells_of (rows_at sides pairs) number)) < 2 ^ 31) (λ number is. is.named) shown light

-- what was found of one row
pub alone_fits : (sides : BatchSides) (share : ℕ) (pairs : List Pair) (number : ℕ) (made : Result ℕ AllocError) → 0 < length pairs → IfOk made (λ count. count ≡ 1) →
    IfOk made (λ _. length (texts_joined (cells_of (rows_at sides (take 1 pairs)) number)) < 2 ^ 31) → IfOk made (FitsIn sides share pairs number)
alone_fits sides share pairs number (Ok count) some one named = one_fits sides share pairs number count one some named
alone_fits sides share pairs number (Err refused) some one named = tt
