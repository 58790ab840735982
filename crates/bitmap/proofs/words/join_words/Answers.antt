use Rattle.bitmap.proofs.Masks.{and_masks, or_masks, but_masks}
use Rattle.bitmap.proofs.words.join_words.Goals as goal

pub returns-in-And : goal.returns-in-And
returns-in-And c = λ ms ns len a b. rw (a, b, c.in-And.is) (and_masks ms ns len)

pub returns-in-Or : goal.returns-in-Or
returns-in-Or c = λ ms ns len a b. rw (a, b, c.in-Or.is) (or_masks ms ns len)

pub returns-in-AndNot : goal.returns-in-AndNot
returns-in-AndNot c = λ ms ns len a b. rw (a, b, c.in-AndNot.is) (but_masks ms ns len)
