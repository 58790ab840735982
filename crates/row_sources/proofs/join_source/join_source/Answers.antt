use Rattle.std.proofs.Common.{◌≡◌, ◌++◌, List, map, ap, sym, ◌∙◌, subst}
use Rattle.std.proofs.lemmas.Result.{IfOk-weaker}
use Rattle.arrow_types.specs.Answer.{copied_type}
use Rattle.arrow_types.specs.declared.data_type.DataType.{DataType}
use Rattle.join_batches.specs.declared.joiner.JoinSides.{JoinSides}
use Rattle.join_batches.specs.Joiner.{JoinerAt, joined_types}
use Rattle.typed_plan.specs.declared.plan.JoinKey.{JoinKey}
use Rattle.row_sources.specs.declared.build.FilteredSource.{FilteredSource}
use Rattle.row_sources.specs.JoinParts.{JoinsRows, AreJoinInputs, all_joined}
use Rattle.row_sources.specs.FilteredSource.{filtered_source_at}
use Rattle.row_sources.specs.JoinedRows.{IsJoined}
use Rattle.row_sources.proofs.BeginJoin.{joiner_is, joins_begun, joins_source, keys_there}
use Rattle.row_sources.proofs.join_source.join_source.Goals as goal

-- the sides are those of the sources
sides_of : (on : List JoinKey) (a b l r : List DataType) (sides : JoinSides) → l ≡ a → r ≡ b → AreJoinInputs on l r sides → AreJoinInputs on a b sides
sides_of on a b l r sides e f is =
    subst (λ (some : List DataType). AreJoinInputs on some b sides) e (subst (λ (some : List DataType). AreJoinInputs on l some sides) f is)

pub joiner_of-requires-clause-typed : goal.joiner_of-requires-clause-typed
joiner_of-requires-clause-typed g c = c.in_ok-sides.ensures.right_types ∙ c.as_slice-4.ensures.value ∙ c.requires.right.types

pub joiner_of-requires-clause-keys : goal.joiner_of-requires-clause-keys
joiner_of-requires-clause-keys g c =
    let left = filtered_source_at c.args.sides.left in
    let right = filtered_source_at c.args.sides.right in
    keys_there c.args.on.now left right c.requires.joinable c.in_ok-sides.sides
    (sides_of c.args.on.now left.types right.types c.as_slice-3.result.now c.as_slice-4.result.now c.in_ok-sides.sides
    (c.as_slice-3.ensures.value ∙ c.requires.left.types) (c.as_slice-4.ensures.value ∙ c.requires.right.types) c.in_ok-sides.ensures)

pub joined-requires-clause-joined : goal.joined-requires-clause-joined
joined-requires-clause-joined g c =
    let left = filtered_source_at c.args.sides.left in
    let right = filtered_source_at c.args.sides.right in
    let is = sides_of c.args.on.now left.types right.types c.as_slice-3.result.now c.as_slice-4.result.now c.in_ok-sides.sides
    (c.as_slice-3.ensures.value ∙ c.requires.left.types) (c.as_slice-4.ensures.value ∙ c.requires.right.types) c.in_ok-sides.ensures in
    let joiner = c.in_ok-joiner.ensures.joiner ∙ joiner_is c.args.on.now left right c.requires.joinable c.in_ok-sides.sides is in
    subst (λ (j : JoinerAt). IsJoined left j 0) (sym joiner) (joins_source c.args.on.now left right c.requires.joinable)

pub joined-requires-clause-types : goal.joined-requires-clause-types
joined-requires-clause-types g c =
    let left = filtered_source_at c.args.sides.left in
    let right = filtered_source_at c.args.sides.right in
    let is = sides_of c.args.on.now left.types right.types c.as_slice-3.result.now c.as_slice-4.result.now c.in_ok-sides.sides
    (c.as_slice-3.ensures.value ∙ c.requires.left.types) (c.as_slice-4.ensures.value ∙ c.requires.right.types) c.in_ok-sides.ensures in
    let joiner = c.in_ok-joiner.ensures.joiner ∙ joiner_is c.args.on.now left right c.requires.joinable c.in_ok-sides.sides is in
    c.in_ok-types.ensures
    ∙ ap (λ (some : List DataType). map copied_type (some ++ c.as_slice-2.result.now)) (c.as_slice.ensures.value ∙ c.requires.left.types)
    ∙ ap (λ (some : List DataType). map copied_type (left.types ++ some)) (c.as_slice-2.ensures.value ∙ c.requires.right.types)
    ∙ ap joined_types (sym joiner)

pub returns-clause-joins : goal.returns-clause-joins
returns-clause-joins g c =
    let on = c.args.on.now in
    let left = filtered_source_at c.args.sides.left in
    let right = filtered_source_at c.args.sides.right in
    let is = sides_of on left.types right.types c.as_slice-3.result.now c.as_slice-4.result.now c.in_ok-sides.sides
    (c.as_slice-3.ensures.value ∙ c.requires.left.types) (c.as_slice-4.ensures.value ∙ c.requires.right.types) c.in_ok-sides.ensures in
    let joiner = c.in_ok-joiner.ensures.joiner ∙ joiner_is on left right c.requires.joinable c.in_ok-sides.sides is in
    let begun = subst (λ (j : JoinerAt). JoinsRows on left right (all_joined left j)) (sym joiner) (joins_begun on left right c.requires.joinable) in
    IfOk-weaker c.joined.result (λ (made : FilteredSource). filtered_source_at made ≡ all_joined left c.in_ok-joiner.joiner)
    (λ (made : FilteredSource). JoinsRows on left right (filtered_source_at made))
    (λ (made : FilteredSource) same. subst (JoinsRows on left right) (sym same) begun)
    c.joined.ensures.joined
