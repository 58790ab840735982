use Rattle.std.proofs.Common.{◌≡◌, ap, rules, sym, ◌∙◌}
use Rattle.version_cell.specs.SignedEntries.{MakerAt, own}
use Rattle.version_cell.proofs.Merging.{among_whole}
use Rattle.version_cell.proofs.maker.Maker.rest.Goals as goal

pub returns-clause-made : goal.returns-clause-made
returns-clause-made g c =
    let made = c.self.inside.made.value.entries in
    let seat = c.self.inside.seat in
    let seen = c.self.inside.history.seen.log in
    let made_is : made ≡ c.args.self.now.made = ap (λ (m : MakerAt). m.made) c.self.view_is in
    let whole : made ≡ own seat seen = among_whole made (own seat seen) c.self.invariant.2 (search rules) in
    let told : c.new.result.made ≡ own seat seen = search rules in
    told ∙ (sym whole ∙ made_is)
