use Rattle.std.proofs.Common.{inl, inr, sym, arith}
use Rattle.std.proofs.lemmas.Bool.{cases_order, le-ltb, lt-ltb}
use Rattle.batch_stats.proofs.TextKeys.{below_by_key, not_below_by_key}
use Rattle.batch_stats.proofs.texts.is_below.Goals as goal

pub returns-then-text-other : goal.returns-then-text-other
returns-then-text-other c =
    let text = c.args.text in
    let other = c.args.other in
    let key = c.requires.text.key in
    let its = c.requires.other.key in
    elim (cases_order text.key other.key) [
      | inl same ↦ absurd (let no : ⊥ = grind (arith, same, c.if-text-other.true) in no)
      | inr (inl low) ↦ rw (lt-ltb text.key other.key low) (sym (below_by_key text.text.now other.text.now c.requires.text.bytes c.requires.other.bytes (omega (arith, low, key, its))))
      | inr (inr high) ↦ rw (le-ltb text.key other.key (omega (arith, high))) (sym (not_below_by_key text.text.now other.text.now c.requires.text.bytes c.requires.other.bytes (omega (arith, high, key, its))))
    ]
