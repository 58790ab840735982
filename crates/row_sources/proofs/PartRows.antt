-- The rows of one batch of the first place, through filters and joins.
use Rattle.std.proofs.Common.{◌≡◌, ◌⊎◌, inl, inr, ℕ, true, false, List, [], ◌∷◌, ◌++◌, map, Some, None, refl, sym, ap, ◌∙◌}
use Rattle.std.specs.List.{flat_map, last_or}
use Rattle.std.proofs.lemmas.Bool.{cases_Bool}
use Rattle.join_batches.specs.Joiner.{JoinerAt, joined_with}
use Rattle.table_versions.specs.Table.{Row}
use Rattle.row_sources.specs.JoinedRows.{IsJoined, joined_at, numbered_joined}
use Rattle.row_sources.specs.Parting.{ComeInOrder, of_number, part_of}
use Rattle.row_sources.specs.Picking.{PickAt, given_numbered, holds}
use Rattle.row_sources.specs.PickedRows.{given}
use Rattle.row_sources.specs.Running.{RowsAt, picked_of}
use Rattle.row_sources.proofs.ByNumber.{each_number, each_order, each_renamed, of_each}

-- ---- filters

-- what is given of one row
abbrev given_one : PickAt → Row → List Row
given_one pick row = given pick (row ∷ [])

given_each : (pick : PickAt) (rows : List (ℕ × Row)) → given_numbered pick rows ≡ of_each (given_one pick) rows
given_each pick [] = refl
given_each pick (row ∷ rows) = by (cases_Bool (holds pick row.1)) (given_each pick rows)
  where
    by : (holds pick row.1 ≡ true) ⊎ (holds pick row.1 ≡ false) → given_numbered pick rows ≡ of_each (given_one pick) rows →
        given_numbered pick (row ∷ rows) ≡ of_each (given_one pick) (row ∷ rows)
    by (inl on) rest = rw (on, rest) refl
    by (inr off) rest = rw (off, rest) refl

-- the part of what is picked is picked of the part
pub part_picked : (pick : PickAt) (number unseen : ℕ) (source : RowsAt) → picked_of pick (part_of number unseen source) ≡ part_of number unseen (picked_of pick source)
part_picked pick number unseen source =
    let renamed = map (λ (row : ℕ × Row). (0, row.1)) in
    let rows = of_number number source.ahead in
    ap (λ (ahead : List (ℕ × Row)). record (picked_of pick (part_of number unseen source)) { ahead = ahead })
    (given_each pick (renamed rows) ∙ sym (each_renamed (given_one pick) 0 rows)
    ∙ ap renamed (sym (each_number (given_one pick) number source.ahead) ∙ ap (of_number number) (sym (given_each pick source.ahead))))

pub picked_in_order : (pick : PickAt) (source : RowsAt) → ComeInOrder source → ComeInOrder (picked_of pick source)
picked_in_order pick source order none =
    let all = each_order (given_one pick) source.ahead source.batches (order none) in
    given_each pick source.ahead ∙ all
    ∙ ap (λ (rows : List (ℕ × Row)). flat_map (λ number. of_number number rows) source.batches) (sym (given_each pick source.ahead))

-- a part has so many rows to be looked at as it has
pub own_unseen : (part whole : RowsAt) (number unseen : ℕ) → part ≡ part_of number unseen whole → part ≡ part_of number part.unseen whole
own_unseen part whole number unseen e = e ∙ ap (λ (n : ℕ). part_of number n whole) (sym (ap (λ (rows : RowsAt). rows.unseen) e))

-- ---- joins

-- no left batch is there, where none was opened
none_joined : (left : RowsAt) (joiner : JoinerAt) (number : ℕ) → IsJoined left joiner number → left.opened ≡ [] → joiner.ahead ≡ []
none_joined left joiner number is none = by is.latest
  where
    by : (joiner.ahead ≡ []) ⊎ (last_or None left.opened ≡ Some number) → joiner.ahead ≡ []
    by (inl e) = e
    by (inr last) = let no : None ≡ Some number = ap (last_or None) (sym none) ∙ last in cc

module _ (left : RowsAt) (joiner : JoinerAt) (at : ℕ) (is : IsJoined left joiner at) (none : left.opened ≡ []) where
  ahead_is : (joined_at left joiner at).ahead ≡ numbered_joined joiner left.ahead
  ahead_is = ap (λ (rows : List Row). map (λ row. (at, row)) rows ++ numbered_joined joiner left.ahead) (none_joined left joiner at is none)

  pub part_joined : (number unseen : ℕ) →
      let part = joined_at (part_of number unseen left) (record joiner { ahead = [] }) 0 in part ≡ part_of number part.unseen (joined_at left joiner at)
  part_joined number unseen =
      let renamed = map (λ (row : ℕ × Row). (0, row.1)) in
      ap (λ (ahead : List (ℕ × Row)). record (joined_at (part_of number unseen left) (record joiner { ahead = [] }) 0) { ahead = ahead })
      (sym (each_renamed (joined_with joiner) 0 (of_number number left.ahead))
      ∙ ap renamed (sym (each_number (joined_with joiner) number left.ahead) ∙ ap (of_number number) (sym ahead_is)))

pub joined_in_order : (left : RowsAt) (joiner : JoinerAt) (at : ℕ) → IsJoined left joiner at → ComeInOrder left → ComeInOrder (joined_at left joiner at)
joined_in_order left joiner at is order none =
    let all = each_order (joined_with joiner) left.ahead left.batches (order none) in
    ahead_is left joiner at is none ∙ all
    ∙ ap (λ (rows : List (ℕ × Row)). flat_map (λ number. of_number number rows) left.batches) (sym (ahead_is left joiner at is none))
