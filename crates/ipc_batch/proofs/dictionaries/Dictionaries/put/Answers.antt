use Rattle.std.proofs.Common.{◌≡◌, ℕ, suc, ◌<◌, List, ◌∷◌, length, drop, drop-cons, ◌∙◌, ap, sym, get_or, arith}
use Rattle.std.specs.Arc.{arc_value}
use Rattle.std.proofs.lemmas.Bool.{eq-eqb}
use Rattle.scan_base.specs.declared.value.Value.{Value}
use Rattle.ipc_batch.proofs.Entries.{put_found}
use Rattle.ipc_batch.proofs.dictionaries.Dictionaries.put.Goals as goal

pub returns-then-index-id-clause-ok : goal.returns-then-index-id-clause-ok
returns-then-index-id-clause-ok c =
    let entries = c.args.self.now in
    let j = c.loop-j.j in
    let entry = c.index.result.now in
    let same = c.loop-j.invariant.same in
    let many = ap length same in
    let low : j < length entries = omega arith in
    let is : entry ≡ get_or entries j entry = rw same at c.index.ensures in
    let front = drop-cons entries j entry low ∙ ap (λ (x : ℕ × List Value). x ∷ drop (suc j) entries) (sym is) in
    let named = eq-eqb entry.0 c.args.id (sym (ap (λ (x : ℕ × List Value). x.0) c.behind-self.view_is) ∙ c.if-index-id.true) in
    rw same (put_found entries j c.args.id (arc_value c.args.values) entry low front named ∙ c.loop-j.invariant.found)
