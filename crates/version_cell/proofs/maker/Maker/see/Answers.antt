use Rattle.std.proofs.Common.{◌≡◌, rules}
use Rattle.version_cell.specs.SignedEntries.{GoesOn}
use Rattle.version_cell.proofs.Parts.{among_on}
use Rattle.version_cell.proofs.maker.Maker.see.Goals as goal

pub invariant_of-self : goal.invariant_of-self
invariant_of-self g c =
    let made = c.self.inside.made.value.entries in
    let seen : c.self.inside.history.seen.log ≡ c.args.self.now.seen = search rules in
    let told : c.again.result.seen.log ≡ c.args.told.now.seen.log = search rules in
    let on : GoesOn c.self.inside.history.seen.log c.again.result.seen.log = rw (seen, told) c.requires.on in
    (search rules, c.self.invariant.1, among_on c.self.inside.seat made c.self.inside.history.seen.log c.again.result.seen.log on c.self.invariant.2, c.self.invariant.3, c.self.invariant.4)
