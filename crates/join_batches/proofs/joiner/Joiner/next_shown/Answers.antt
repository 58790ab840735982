use Rattle.std.proofs.Common.{◌≡◌, ◌-◌, ◌+◌, length, take, drop, true, refl, ap, ◌∙◌, subst, arith, rules, length-drop}
use Rattle.std.proofs.lemmas.List.{take_all}
use Rattle.join_batches.specs.declared.joiner.BuiltSides.{BuiltSides}
use Rattle.join_batches.specs.declared.joiner.Joiner.TheInside.{Inside}
use Rattle.join_batches.specs.Joiner.{JoinerAt, GivesShown}
use Rattle.join_batches.specs.HeldRows.{joiner_of, sides_of, IsJoiner}
use Rattle.join_batches.specs.LeftPairs.{KeepsPairs}
use Rattle.join_batches.proofs.Made.{batch_of_first}
use Rattle.join_batches.proofs.Giving.{gives_shown, same_rows, shown_there, sides_are, with_left}
use Rattle.join_batches.proofs.joiner.Joiner.next_shown.Goals as goal
use Rattle.join_batches.proofs.joiner.Joiner.next_shown.Goals.{In_ok-find}

-- the joiner whose next pairs were found
abbrev found : In_ok-find → Inside
found c = with_left c.self.inside c.find.new.self

-- it keeps its pairs
keeps : (c : In_ok-find) → KeepsPairs (sides_of c.self.inside) c.self.inside.left c.find.new.self
keeps c = subst (λ (sides : BuiltSides). KeepsPairs sides c.self.inside.left c.find.new.self) c.deref-built.ensures c.find.ensures.kept

held : (c : In_ok-find) → IsJoiner (found c)
held c = record { built = c.self.invariant.built; left = (keeps c).held }

pub joined-requires-clause-sides : goal.joined-requires-clause-sides
joined-requires-clause-sides c =
    let at = (goal.at.joined-requires-clause-sides c).In_ok-find in
    let is = c.deref-built.ensures in
    let some : c.in_ok-find.field-0 ≡ true = search (rules, c.if-not-branch.false) in
    sides_are (found at) _ (held at) refl (c.as_slice-2.ensures.value ∙ ap (λ (s : BuiltSides). s.left.types.items) is)
    (c.batches.ensures ∙ ap (λ (s : BuiltSides). s.build.batches) is) (c.as_slice-3.ensures.value ∙ ap (λ (s : BuiltSides). s.right_types.items) is)
    (c.in_ok-find.ensures.some some)

pub returns : goal.returns
returns c =
    let at = (goal.at.returns c).In_ok-find in
    let j = found at in
    let pairs = c.as_slice.result.now in
    let is = c.deref-built.ensures in
    let types = c.as_slice-2.ensures.value ∙ ap (λ (s : BuiltSides). s.left.types.items) is in
    let right_types = c.as_slice-3.ensures.value ∙ ap (λ (s : BuiltSides). s.right_types.items) is in
    let behind = length-drop j.left.given pairs in
    let all : take (length pairs - j.left.given) (drop j.left.given pairs) ≡ drop j.left.given j.left.pairs.items =
    take_all (length pairs - j.left.given) (drop j.left.given pairs) (omega (arith, behind)) ∙ ap (drop j.left.given) c.as_slice.ensures.value in
    let same = same_rows c.self.inside c.find.new.self (keeps at) ∙ c.self.view_is in
    subst (λ (before : JoinerAt). GivesShown before c.args.shown.now c.in_ok-joined.joined
    (joiner_of (record (with_left j (record j.left { given = j.left.given + c.rows.result })) { most = c.next_most-self-inside.result }))) same
    (gives_shown j _ c.args.shown.now (take (length pairs - j.left.given) (drop j.left.given pairs)) c.in_ok-joined.joined c.rows.result (held at) refl
    types (c.batches.ensures ∙ ap (λ (s : BuiltSides). s.build.batches) is) right_types all c.rows.ensures
    (shown_there j c.args.self.now c.as_slice-2.result.now c.as_slice-3.result.now c.args.shown.now same types right_types c.requires)
    (batch_of_first _ c.args.shown.now (take (length pairs - j.left.given) (drop j.left.given pairs)) c.tried_rows-tried.result c.in_ok-joined.joined c.in_ok-joined.ensures))
