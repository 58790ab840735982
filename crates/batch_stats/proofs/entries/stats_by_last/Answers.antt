use Rattle.std.proofs.Common.{◌≡◌, ℕ, List, subst, ap, ◌∙◌}
use Rattle.arrays.specs.Number.{byte_width, element_at}
use Rattle.batch_stats.specs.inside.CodeSets.{HasLast}
use Rattle.batch_stats.proofs.CodeSets.{last_one}
use Rattle.batch_stats.proofs.entries.stats_by_last.Goals as goal

pub stats_with-requires-clause-known : goal.stats_with-requires-clause-known
stats_with-requires-clause-known g c = λ code has.
    let cells = c.args.cells.now in
    let start = c.args.start in
    let is : c.code.result ≡ element_at (byte_width cells.index) cells.values start =
    c.code.ensures ∙ ap (λ v. element_at g.C.Code.WIDTH v start) c.values.ensures ∙ ap (λ w. element_at w cells.values start) c.requires.width in
    last_one c.code.result code (subst (λ (codes : List ℕ). HasLast codes code) c.new-last.ensures has) ∙ is
