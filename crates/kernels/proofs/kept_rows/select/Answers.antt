use Rattle.std.proofs.Common.{◌≤◌, ◌<◌, ◌-◌, ◌++◌, ℕ, Bool, List, All, length, map, sym, ap, subst, ◌∙◌, arith}
use Rattle.std.specs.List.{filter, range_with_len}
use Rattle.scan_base.specs.View.{pred_of}
use Rattle.kernels.specs.KeptRows.{all_keep, rows_among}
use Rattle.kernels.proofs.PushedRows.{all_before, among_test, filter_more}
use Rattle.kernels.proofs.kept_rows.select.Goals as goal

pub push_words-requires-clause-earlier : goal.push_words-requires-clause-earlier
push_words-requires-clause-earlier c =
    let test : ℕ → Bool = all_keep c.args.columns.now.columns.now c.args.columns.now.read.now (map pred_of c.args.predicates.now) in
    subst (λ (l : List ℕ). All (λ (p : ℕ). p < c.loop-at.at) l) (sym c.loop-at.invariant.rows) (all_before test c.args.from c.loop-at.at c.loop-at.invariant.low)

pub loop-at-preserved : goal.loop-at-preserved
loop-at-preserved c =
    let test : ℕ → Bool = all_keep c.args.columns.now.columns.now c.args.columns.now.read.now (map pred_of c.args.predicates.now) in
    let at = c.loop-at.at in
    let end = c.min-end.result in
    let low : at ≤ end = omega (arith, c.min-end.ensures, c.loop-at-test.true) in
    let high : end ≤ c.args.to = omega (arith, c.min-end.ensures) in
    let words = c.in_ok-words.words.items in
    record {
      low = omega (arith, low, c.loop-at.invariant.low);
      high = high;
      rows =
          c.in_ok-push_words.ensures
          ∙ ap (λ (l : List ℕ). l ++ rows_among at c.as_slice.result.now (length c.as_slice.result.now)) c.loop-at.invariant.rows
          ∙ ap (λ (w : List ℕ). filter test (range_with_len c.args.from (at - c.args.from)) ++ rows_among at w (length w)) c.as_slice.ensures.value
          ∙ ap (λ (l : List ℕ). filter test (range_with_len c.args.from (at - c.args.from)) ++ l) (among_test test at (end - at) words c.in_ok-words.ensures)
          ∙ filter_more test c.args.from at end c.loop-at.invariant.low low;
    }
