-- What is given of a part of a batch.
use Rattle.std.proofs.Common.{◌≡◌, ◌<◌, ℕ, ◌-◌, List, [], ◌∷◌, length, map, refl, sym, ap, ◌∙◌, arith, Bool, true, false, cond}
use Rattle.std.proofs.lemmas.List.FromFn.{length-range_with_len}
use Rattle.std.proofs.lemmas.Simd.{map-map}
use Rattle.arrays.specs.Batch.{BatchAt, row_of, cut_batch}
use Rattle.arrays.specs.Column.{ColumnAt}
use Rattle.row_sources.specs.declared.batch_slice.BatchSlice.{BatchSlice}
use Rattle.batch_skipping.specs.ChosenColumns.{columns_at}
use Rattle.row_sources.specs.Picking.{PickAt, IsPick, cells_at, holds, rows_of_part, chosen_rows}
use Rattle.row_sources.specs.PickedRows.{given, HasRowsAt, IsPicked, given_of_part}
use Rattle.row_sources.proofs.Selecting.{cuts_have, rows_there, all_typed}
use Rattle.row_sources.proofs.Shown.{columns_cells, chosen_typed}
use Rattle.std.specs.List.{filter}

map_along : {X : Type 0} (f g : ℕ → X) (xs : List ℕ) → ((j : ℕ) → f j ≡ g j) → map f xs ≡ map g xs
map_along f g [] same = refl
map_along f g (x ∷ xs) same = ap (λ first. first ∷ map f xs) (same x) ∙ ap (λ rest. g x ∷ rest) (map_along f g xs same)

pub filter-map : {X Y : Type 0} (test : Y → Bool) (f : X → Y) (xs : List X) → filter test (map f xs) ≡ map f (filter (λ x. test (f x)) xs)
filter-map test f [] = refl
filter-map test f (x ∷ xs) = by (test (f x)) (filter-map test f xs)
  where
    by : (b : Bool) → filter test (map f xs) ≡ map f (filter (λ x. test (f x)) xs) →
        cond b (f x ∷ filter test (map f xs)) (filter test (map f xs)) ≡ map f (cond b (x ∷ filter (λ x. test (f x)) xs) (filter (λ x. test (f x)) xs))
    by true rest = ap (λ more. f x ∷ more) rest
    by false rest = rest

pub filter-all : {X : Type 0} (xs : List X) → filter (λ x. true) xs ≡ xs
filter-all [] = refl
filter-all (x ∷ xs) = ap (λ rest. x ∷ rest) (filter-all xs)

module _ (pick : PickAt) (part : BatchSlice) (is : IsPick (length part.batch.now.columns) pick) where
  abbrev columns : List ColumnAt
  columns = part.batch.now.columns

  -- the rows of a part, by their numbers
  given_is : given_of_part pick part ≡ map (λ j. cells_at pick.shown (row_of columns j)) (chosen_rows pick part)
  given_is =
      let rows = rows_there (rows_of_part part) columns (cut_batch part.batch.now part.from part.to) (cuts_have columns part.from part.to)
      (sym (length-range_with_len part.from (part.to - part.from))) in
      ap (given pick) rows
      ∙ ap (map (cells_at pick.shown)) (filter-map (holds pick) (row_of columns) (rows_of_part part))
      ∙ map-map (cells_at pick.shown) (row_of columns) (chosen_rows pick part)

  -- so a batch of the shown columns of the chosen rows is what is given
  pub gives : (places : List ℕ) (made : BatchAt) → places ≡ chosen_rows pick part → 0 < length places →
      HasRowsAt places pick.shown part.batch.now made → IsPicked pick part made
  gives places made e some has = record {
    rows = rows_there places (columns_at pick.shown columns) made has.columns has.rows
        ∙ map_along (row_of (columns_at pick.shown columns)) (λ j. cells_at pick.shown (row_of columns j)) places
        (λ j. columns_cells pick.shown columns j is.shown)
        ∙ ap (map (λ j. cells_at pick.shown (row_of columns j))) e ∙ sym given_is;
    some = omega (arith, has.rows, some);
    typed = λ types typed. all_typed places (map _ pick.shown) (columns_at pick.shown columns) made.columns has.columns
        (chosen_typed types columns pick.shown typed is.shown);
  }

  pub gives_none : chosen_rows pick part ≡ [] → given_of_part pick part ≡ []
  gives_none none = given_is ∙ ap (map (λ j. cells_at pick.shown (row_of columns j))) none

-- without a filter all rows are given
pub all_hold : (pick : PickAt) (part : BatchSlice) → pick.filters ≡ [] → rows_of_part part ≡ chosen_rows pick part
all_hold pick part none =
    rw none (sym (filter-all (rows_of_part part)))
