use Rattle.std.proofs.Common.{◌≡◌, ◌<◌, ◌-◌, ◌^◌, ◌++◌, ℕ, List, All, length, sym, ap, subst, ◌∙◌, arith}
use Rattle.std.specs.List.{filter, range_with_len}
use Rattle.hash_join.specs.Words.{set_bits}
use Rattle.hash_join.proofs.Piecing.{kept_below, kept_joined}
use Rattle.hash_join.proofs.Words.{rows_few, word_rows}
use Rattle.hash_join.proofs.left_pieces.keep_passing.Goals as goal

pub keep_rows-count-requires-clause-small : goal.keep_rows-count-requires-clause-small
keep_rows-count-requires-clause-small g c =
    let passes = g.S.Sieve.passes c.args.sieve.now in
    let at = c.looks.at in
    let rows = c.min-rows.result in
    let are : set_bits 64 at c.word.result ≡ filter passes (range_with_len at rows) =
    ap (set_bits 64 at) c.word.ensures ∙ word_rows passes 64 at rows (omega (arith, c.min-rows.ensures)) in
    subst (λ (all : List ℕ). All (λ (row : ℕ). row < 2 ^ 32) all) (sym are)
    (kept_below passes at rows (2 ^ 32) (omega (arith, c.min-rows.ensures, c.looks-test.true, c.requires.small)))

pub keep_rows-count-requires-clause-room : goal.keep_rows-count-requires-clause-room
keep_rows-count-requires-clause-room g c =
    let passes = g.S.Sieve.passes c.args.sieve.now in
    let at = c.looks.at in
    let rows = c.min-rows.result in
    let are : set_bits 64 at c.word.result ≡ filter passes (range_with_len at rows) =
    ap (set_bits 64 at) c.word.ensures ∙ word_rows passes 64 at rows (omega (arith, c.min-rows.ensures)) in
    omega (arith, ap length are, rows_few passes at rows, c.min-rows.ensures, c.looks-test.true, c.looks.invariant.few, c.looks.invariant.low, c.looks.invariant.long, c.requires.room)

pub looks-preserved : goal.looks-preserved
looks-preserved g c =
    let passes = g.S.Sieve.passes c.args.sieve.now in
    let from : ℕ = c.args.from in
    let at = c.looks.at in
    let rows = c.min-rows.result in
    let made = c.keep_rows-count in
    let are : set_bits 64 at c.word.result ≡ filter passes (range_with_len at rows) =
    ap (set_bits 64 at) c.word.ensures ∙ word_rows passes 64 at rows (omega (arith, c.min-rows.ensures)) in
    record {
      low = omega (arith, c.looks.invariant.low);
      high = omega (arith, c.min-rows.ensures, c.looks-test.true);
      few = omega (arith, made.ensures.count, ap length are, rows_few passes at rows, c.looks.invariant.few, c.looks.invariant.low);
      long = made.ensures.long ∙ c.looks.invariant.long;
      kept = made.ensures.kept ∙ ap (λ (before : List ℕ). before ++ set_bits 64 at c.word.result) c.looks.invariant.kept
          ∙ ap (λ (more : List ℕ). filter passes (range_with_len from (at - from)) ++ more) are
          ∙ sym (kept_joined passes from at rows c.looks.invariant.low);
    }
