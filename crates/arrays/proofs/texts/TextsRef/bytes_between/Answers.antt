use Rattle.std.proofs.Common.{◌≡◌, ◌∙◌, sym, ap, subst}
use Rattle.arrays.specs.Texts.{TextsAt, AreTexts}
use Rattle.arrays.proofs.Adjoining.{between}
use Rattle.arrays.proofs.texts.TextsRef.bytes_between.Goals as goal

pub returns-clause-bytes : goal.returns-clause-bytes
returns-clause-bytes c =
    let cells = c.args.self.now in
    let bytes : c.as_slice.result.now ≡ cells.bytes = c.as_slice.ensures ∙ ap (λ (x : TextsAt). x.bytes) c.self.view_is in
    rw (c.bounds-begin.ensures.begin, c.bounds-begin.ensures.end, bytes)
    (sym (between cells c.args.from c.args.to (subst AreTexts c.self.view_is c.self.invariant) c.requires.ordered c.requires.within))
