-- Answers, from groups to their last batch.
use Rattle.std.proofs.Common.{◌≡◌, ◌≤◌, ℕ, suc, ◌+◌, List, [], ◌∷◌, All, length, map, get_or, Option, None, Ok, refl, sym, ap, ◌∙◌, subst, arith}
use Rattle.std.proofs.lemmas.List.{drop_all, length-map}
use Rattle.std.proofs.lemmas.List.FromFn.{length-map-range_with_len}
use Rattle.std.proofs.lemmas.List.Elements.{All-map}
use Rattle.scan_base.specs.declared.fault.Fault.{Fault}
use Rattle.scan_base.specs.declared.value.Value.{Value}
use Rattle.scan_base.specs.Predicate.{cell_in}
use Rattle.arrays.specs.Batch.{BatchAt, row_of}
use Rattle.grouping.specs.declared.key.Place.{Place}
use Rattle.first_rows.specs.declared.key.RowKey.{RowKey}
use Rattle.grouping.specs.AnswerRows.{answer_rows, group_row}
use Rattle.array_select.specs.Room.{most_batch_rows}
use Rattle.grouping.specs.Answers.{AnswersAt, Finishes, GivesGroups, HasFirstRows, IsThere, answers_ahead, groups_at, keys_at, placed_row}
use Rattle.grouping.specs.FedRows.{GroupsAt, AreTyped}
use Rattle.grouping.specs.FoundKeys.{key_in}
use Rattle.first_rows.specs.RowKeys.{key_of}
use Rattle.grouping.specs.inside.Finishing.{IsNextOf, group_count}
use Rattle.grouping.specs.inside.Placing.{IsFirst, found_by, place_of}
use Rattle.grouping.proofs.Finishing.{next_given}
use Rattle.grouping.proofs.Held.{held_answers}

-- ---- how many groups there are

pub found_long : (keys : List ℕ) (firsts : List RowKey) → length (found_by keys firsts) ≡ group_count keys (length (map place_of firsts))
found_long [] firsts = refl
found_long (key ∷ keys) firsts = length-map firsts key_of ∙ sym (length-map firsts place_of)

-- ---- where first rows stand

key_same : (batches : List BatchAt) (keys : List ℕ) (first : RowKey) → IsFirst batches keys first → key_in keys (placed_row batches (place_of first)) ≡ key_of first
key_same batches keys first is =
    ap (λ (batch : BatchAt). map (cell_in (row_of batch.columns first.row)) keys) (sym is.stands.same)
    ∙ ap (map (cell_in (row_of first.batch.now.columns first.row))) (sym is.keyed)

keys_all : (batches : List BatchAt) (keys : List ℕ) (firsts : List RowKey) → All (IsFirst batches keys) firsts →
    map (λ (place : Place). key_in keys (placed_row batches place)) (map place_of firsts) ≡ map key_of firsts
keys_all batches keys [] all = refl
keys_all batches keys (first ∷ firsts) all =
    ap (λ (key : List Value). key ∷ map (λ (place : Place). key_in keys (placed_row batches place)) (map place_of firsts)) (key_same batches keys first (all 0 first (omega arith)))
    ∙ ap (λ (rest : List (List Value)). key_of first ∷ rest) (keys_all batches keys firsts (λ k d low. all (suc k) d (omega arith)))

-- the keys of the groups are those of their first rows
pub keys_same : (batches : List BatchAt) (keys : List ℕ) (firsts : List RowKey) → All (IsFirst batches keys) firsts →
    keys_at batches keys (map place_of firsts) ≡ found_by keys firsts
keys_same batches [] firsts all = refl
keys_same batches (key ∷ keys) firsts all = keys_all batches (key ∷ keys) firsts all

first_there : (batches : List BatchAt) (keys : List ℕ) (first : RowKey) → IsFirst batches keys first → IsThere batches (place_of first)
first_there batches keys first is = record {
  batch = is.stands.there;
  row = omega (arith, first.within, ap (λ (batch : BatchAt). batch.rows) is.stands.same);
}

pub firsts_there : (batches : List BatchAt) (keys : List ℕ) (firsts : List RowKey) → All (IsFirst batches keys) firsts → All (IsThere batches) (map place_of firsts)
firsts_there batches keys firsts all =
    All-map (IsThere batches) place_of firsts (λ k d low. first_there batches keys (get_or firsts k d) (all k d low))

-- ---- what finishing answers

-- what was not refused, with its first rows, is the answer
pub finishes : (inside before : GroupsAt) (firsts : List RowKey) (answers : AnswersAt) → inside ≡ before → inside.refused ≡ None →
    inside.found ≡ found_by inside.keys firsts → AreTyped inside.types inside.batches → All (IsFirst inside.batches inside.keys) firsts →
    answers ≡ record { types = inside.types; keys = inside.keys; items = inside.items; firsts = map place_of firsts; tallies = inside.tallies; given = 0 } →
    Finishes before (Ok answers)
finishes inside before firsts answers is none found typed all same =
    let whole : AnswersAt = record { types = inside.types; keys = inside.keys; items = inside.items; firsts = map place_of firsts; tallies = inside.tallies; given = 0 } in
    let alone : GroupsAt = record inside { refused = None } in
    let keys : keys_at inside.batches inside.keys (map place_of firsts) ≡ inside.found = keys_same inside.batches inside.keys firsts all ∙ sym found in
    let now : Finishes alone (Ok whole) = record {
      over = record { typed = typed; there = firsts_there inside.batches inside.keys firsts all };
      types = refl;
      ahead = λ rows held. ap (λ (found : List (List Value)). answer_rows (record alone { found = found })) keys ∙ held_answers alone rows held;
    } in
    subst (λ (answers : AnswersAt). Finishes before (Ok answers)) (sym same)
    (subst (λ (groups : GroupsAt). Finishes groups (Ok whole)) is
    (subst (λ (refused : Option Fault). Finishes (record inside { refused = refused }) (Ok whole)) (sym none) now))

-- ---- the next batch

-- a batch of the next groups is given
pub gives : (batches : List BatchAt) (before : AnswersAt) (groups : GroupsAt) (most : ℕ) (batch : BatchAt) → groups ≡ groups_at batches before →
    HasFirstRows batches before → before.given + most ≤ length groups.found → most ≤ most_batch_rows → IsNextOf groups before.given most batch →
    GivesGroups batches before batch (record before { given = before.given + batch.rows })
gives batches before groups most batch same over within few next =
    let here : IsNextOf (groups_at batches before) before.given most batch = subst (λ (groups : GroupsAt). IsNextOf groups before.given most batch) same next in
    let room : before.given + most ≤ length (groups_at batches before).found = omega (arith, within, ap (λ (groups : GroupsAt). length groups.found) same) in
    record {
      next = next_given (groups_at batches before) before.given most batch room here;
      some = here.some;
      few = omega (arith, here.few, few);
      typed = here.is.typed;
      room = here.room;
      over = record { typed = over.typed; there = over.there };
      types = refl;
    }

-- where all groups were answered nothing is left
pub none_left : (batches : List BatchAt) (before : AnswersAt) (groups : GroupsAt) → groups ≡ groups_at batches before → length groups.found ≤ before.given →
    answers_ahead batches before ≡ []
none_left batches before groups same all =
    let long = length-map-range_with_len (group_row (groups_at batches before)) 0 (length (groups_at batches before).found) in
    drop_all before.given (answer_rows (groups_at batches before)) (omega (arith, long, all, ap (λ (groups : GroupsAt). length groups.found) same))
