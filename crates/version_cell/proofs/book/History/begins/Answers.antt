use Rattle.std.proofs.Common.{List, ap, subst, refl}
use mathlib.Core.List.{IsPrefix}
use Rattle.version_cell.specs.SignedEntries.{SignedEntry}
use Rattle.version_cell.proofs.Fronts.{either_begins}
use Rattle.version_cell.proofs.book.History.begins.Goals as goal

pub returns : goal.returns
returns c =
    let both = c.learn.new.self.log in
    let mine = c.args.self.now in
    let other = c.args.other.now in
    let this : IsPrefix mine.seen.log both = subst (λ (l : List SignedEntry). IsPrefix l both) (ap (λ s. s.log) c.again-both.ensures) c.learn.ensures.2 in
    either_begins _ mine.seen.log other.seen.log both _ _ mine.counted other.counted this c.learn.ensures.3 refl
