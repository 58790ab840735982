use Rattle.std.proofs.Common.{◌≡◌, ◌<◌, ◌+◌, ℕ, length, get_or, sym, ◌∙◌, arith}
use Rattle.std.specs.List.{range_with_len}
use Rattle.std.proofs.lemmas.List.{same_lists, get_or_default}
use Rattle.std.proofs.lemmas.List.FromFn.{get_or-range_with_len, length-range_with_len}
use Rattle.array_select.proofs.selection.run_from.Goals as goal

pub returns : goal.returns
returns c =
    let run = c.loop-k.run in
    let long = c.loop-k.invariant.long in
    let base : ℕ = c.args.base in
    same_lists run (range_with_len base 64) (long ∙ sym (length-range_with_len base 64))
    (λ k d low. let there : k < 64 = omega (arith, low, long) in
    get_or_default run k d 0 low ∙ c.loop-k.invariant.made k (omega (arith, there, c.loop-k-test.false)) ∙ sym (get_or-range_with_len base 64 k d there))
