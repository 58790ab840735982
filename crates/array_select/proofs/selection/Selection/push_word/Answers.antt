use Rattle.std.proofs.Common.{◌≡◌, ◌+◌, ◌++◌, ◌∷◌, [], List, ℕ, OnOk, sym, ap, ◌∙◌, subst, arith, append-nil}
use Rattle.std.proofs.lemmas.List.{append_assoc}
use lib.Count.{count_trailing_zeros}
use Rattle.array_select.specs.SetBits.{set_bits}
use Rattle.array_select.proofs.Hits.{all_bits, pushed_below, pushed_more, set_bits-zero}
use Rattle.array_select.proofs.selection.Selection.push_word.Goals as goal

pub push-requires : goal.push-requires
push-requires c =
    let had = c.loop-left.invariant in
    pushed_below c.args.base c.args.word c.loop-left.left c.args.self.now had.0 c.loop-left.self (omega (arith, c.loop-left-test.true)) (omega (arith, c.loop-left.auto.left-fits))
    c.requires.earlier had.1 had.2

pub loop-left-preserved : goal.loop-left-preserved
loop-left-preserved c =
    let had = c.loop-left.invariant in
    let place : ℕ = c.args.base + count_trailing_zeros 64 c.loop-left.left in (
      had.0 ++ place ∷ [],
      c.in_ok-push.ensures.pushed ∙ ap (λ (l : List ℕ). l ++ place ∷ []) had.1 ∙ append_assoc c.args.self.now had.0 (place ∷ []),
      pushed_more c.args.base c.args.word c.loop-left.left had.0 (omega (arith, c.loop-left-test.true)) (omega (arith, c.loop-left.auto.left-fits)) had.2,
    )

pub returns : goal.returns
returns c =
    let had = c.loop-left.invariant in
    let none : c.loop-left.left ≡ 0 = omega (arith, c.loop-left-test.false) in
    had.1
    ∙ ap (λ (l : List ℕ). c.args.self.now ++ l)
    (sym (append-nil had.0) ∙ ap (λ (l : List ℕ). had.0 ++ l) (sym (set_bits-zero 64 c.args.base)) ∙ ap (λ (x : ℕ). had.0 ++ set_bits 64 c.args.base x) (sym none) ∙ had.2)

pub returns-then-word-eq18446744073709551615 : goal.returns-then-word-eq18446744073709551615
returns-then-word-eq18446744073709551615 c =
    let whole = ap (set_bits 64 c.args.base) c.if-word-eq18446744073709551615.true ∙ all_bits 64 c.args.base in
    subst (λ (l : List ℕ). OnOk c.push_run.result (c.push_run.new.self ≡ c.args.self.now ++ l)) (sym whole) c.push_run.ensures
