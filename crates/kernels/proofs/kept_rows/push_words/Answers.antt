use Rattle.std.proofs.Common.{ℕ, List, ◌+◌, ◌*◌, ◌++◌, get_or, sym, ap, ◌∙◌, append_assoc}
use Rattle.array_select.specs.SetBits.{set_bits}
use Rattle.kernels.specs.KeptRows.{rows_among}
use Rattle.kernels.proofs.PushedRows.{pushed_low, among_more}
use Rattle.kernels.proofs.kept_rows.push_words.Goals as goal

pub push_word-requires-clause-earlier : goal.push_word-requires-clause-earlier
push_word-requires-clause-earlier c = pushed_low c.args.base c.args.words.now c.args.selection.now c.loop-k.selection c.loop-k.k c.requires.earlier c.loop-k.invariant

pub loop-k-preserved : goal.loop-k-preserved
loop-k-preserved c =
    let words = c.args.words.now in
    let more : List ℕ = set_bits 64 (c.args.base + 64 * c.loop-k.k) (get_or words c.loop-k.k 0) in
    c.in_ok-push_word.ensures ∙ ap (λ (l : List ℕ). l ++ more) c.loop-k.invariant
    ∙ append_assoc c.args.selection.now (rows_among c.args.base words c.loop-k.k) more
    ∙ ap (λ (l : List ℕ). c.args.selection.now ++ l) (sym (among_more c.args.base words c.loop-k.k))
