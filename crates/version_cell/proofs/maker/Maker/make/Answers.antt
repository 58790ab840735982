use Rattle.std.proofs.Common.{◌≡◌, ◌++◌, ◌∷◌, ◌^◌, [], length, ap, arith, length-append, rules}
use Rattle.version_cell.specs.PlacedEntries.{Placed}
use Rattle.version_cell.specs.SignedEntries.{MakerAt, signed}
use Rattle.version_cell.proofs.Parts.{among_made, few_made, one_counted}
use Rattle.version_cell.proofs.maker.Maker.make.Goals as goal

pub overflow_add-self : goal.overflow_add-self
overflow_add-self g c =
    let seen = c.self.inside.history.seen.log in
    let mine : seen ≡ c.args.self.now.seen = ap (λ (m : MakerAt). m.seen) c.self.view_is in
    record {
      fits = omega (
        arith,
        c.self.invariant.3,
        few_made c.self.inside.seat c.self.inside.made.value.entries seen c.self.invariant.2,
        ap length mine,
        ap length c.requires.behind,
        length-append c.args.self.now.seen (signed c.args.self.now.seat c.args.entry.now ∷ []),
        c.requires.few,
      );
    }

pub invariant_of-self : goal.invariant_of-self
invariant_of-self g c =
    let made = c.self.inside.made.value.entries in
    let seat = c.self.inside.seat in
    let seen = c.self.inside.history.seen.log in
    let end : Placed = (length seen, c.args.entry.now) in
    let last : c.with.result.value.entries ≡ made ++ end ∷ [] = search rules in
    let log : c.again.result.seen.log ≡ seen ++ signed seat c.args.entry.now ∷ [] = search rules in (
      search rules,
      one_counted c.self.inside.shares c.count.new.shares made c.with.result.value.entries end (2 ^ seat) c.self.invariant.1 c.count.ensures.shares last,
      among_made seat made c.with.result.value.entries seen c.again.result.seen.log c.args.entry.now c.self.invariant.2 log last,
      omega (arith, c.self.invariant.3, ap length last, length-append made (end ∷ [])),
      search rules,
    )
