use Rattle.std.proofs.Common.{◌≡◌, ◌∙◌, ap, subst}
use Rattle.arrays.specs.Texts.{TextsAt, AreTexts}
use Rattle.arrays.proofs.TextSlots.{text_is_utf8}
use Rattle.arrays.proofs.texts.TextsRef.get.Goals as goal

pub from_utf8_unchecked-requires : goal.from_utf8_unchecked-requires
from_utf8_unchecked-requires c =
    let cells = c.args.self.now in
    let are = subst AreTexts c.self.view_is c.self.invariant in
    let bytes : c.as_slice.result.now ≡ cells.bytes = c.as_slice.ensures ∙ ap (λ (x : TextsAt). x.bytes) c.self.view_is in
    rw (c.bounds-begin.ensures.begin, c.bounds-begin.ensures.end, bytes) (text_is_utf8 cells c.args.place (are.texts c.args.place c.requires.place) c.requires.valid)
