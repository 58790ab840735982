use Rattle.std.proofs.Common.{◌≤◌, sym, ◌∙◌, length, drop, arith}
use Rattle.std.proofs.lemmas.List.{length-drop}
use Rattle.sql_text.proofs.Pairs.{pair_none}
use Rattle.sql_text.proofs.value.first_pair.Goals as goal

pub returns-clause-place : goal.returns-clause-place
returns-clause-place c =
    let rest = drop c.loop-at.at c.args.bytes.now in
    let few : length rest ≤ 1 = omega (arith, length-drop c.loop-at.at c.args.bytes.now) in
    sym (pair_none c.args.quote c.loop-at.at rest few) ∙ c.loop-at.invariant.left
