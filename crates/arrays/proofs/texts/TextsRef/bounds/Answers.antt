use Rattle.std.proofs.Common.{◌≡◌, ◌∙◌, List, ℕ, ap, subst, arith}
use Rattle.arrays.specs.Number.{element_at}
use Rattle.arrays.specs.Texts.{TextsAt, AreTexts}
use Rattle.arrays.proofs.Adjoining.{bounds}
use Rattle.arrays.proofs.texts.TextsRef.bounds.Goals as goal

are_texts : (c : goal.After-read) → AreTexts c.args.self.now
are_texts c = subst AreTexts c.self.view_is c.self.invariant

offsets_are : (c : goal.After-read) → c.as_slice-offsets.result.now ≡ c.args.self.now.offsets
offsets_are c = c.as_slice-offsets.ensures ∙ ap (λ (cells : TextsAt). cells.offsets) c.self.view_is

end_is : (c : goal.After-read) → c.read.result ≡ element_at 4 c.args.self.now.offsets c.args.to
end_is c = c.read.ensures ∙ ap (λ (offsets : List ℕ). element_at 4 offsets c.args.to) (offsets_are c)

pub returns-clause-ordered : goal.returns-clause-ordered
returns-clause-ordered c =
    let begin_is = c.read-begin.ensures ∙ ap (λ (offsets : List ℕ). element_at 4 offsets c.args.from) (offsets_are c) in
    omega (arith, begin_is, end_is c, (bounds c.args.self.now c.args.from c.args.to (are_texts c) c.requires.some c.requires.within).0)

pub returns-clause-within : goal.returns-clause-within
returns-clause-within c = omega (arith, end_is c, (bounds c.args.self.now c.args.from c.args.to (are_texts c) c.requires.some c.requires.within).1)

pub returns-clause-short : goal.returns-clause-short
returns-clause-short c = omega (arith, end_is c, (bounds c.args.self.now c.args.from c.args.to (are_texts c) c.requires.some c.requires.within).2)
