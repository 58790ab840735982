use Rattle.std.proofs.Common.{◌≡◌, ◌≤◌, ℕ, ◌+◌, ◌-◌, List, IfOk, length, map, take, drop, get_or, subst, ap, ◌∙◌, arith}
use Rattle.scan_base.specs.declared.value.Value.{Value}
use Rattle.array_select.specs.Fitting.{Fits}
use Rattle.array_select.specs.Room.{share_among}
use Rattle.grouping.specs.inside.Answering.{first_cell}
use Rattle.grouping.specs.inside.Finishing.{groups_in}
use Rattle.grouping.proofs.Finishing.{key_at, tallies_fit}
use Rattle.grouping.proofs.batches.GroupRows.how_many_fit_in.Goals as goal

pub returns-in-Key : goal.returns-in-Key
returns-in-Key c =
    let answer = c.args.self.now in
    let key = key_at answer c.args.item c.in-Key.place c.requires.can c.requires.there c.in-Key.is in
    let cell = first_cell answer.batches.now (get_or answer.keys.now c.in-Key.place 0) in
    let many : (c.args.from + c.args.most) - c.args.from ≡ c.args.most = omega arith in
    let within : c.args.from + c.args.most ≤ length answer.firsts.now = omega (arith, key.long, c.requires.within) in
    subst (λ (values : List Value). IfOk c.how_many_firsts_fit.result (Fits (share_among (length answer.items.now)) values))
    (ap (map cell) (c.part-firsts.ensures ∙ ap (λ (n : ℕ). take n (drop c.args.from answer.firsts.now)) many) ∙ key.cells c.args.from c.args.most within)
    c.how_many_firsts_fit.ensures

pub returns-in-CountRows : goal.returns-in-CountRows
returns-in-CountRows c = tallies_fit (share_among (length c.args.self.now.items.now)) (groups_in c.args.self.now) c.args.item c.args.from c.args.most c.in-CountRows.is c.requires.some
