use Rattle.std.proofs.Common.{◌<◌, false, List, length, ap, sym, ◌∙◌, arith}
use Rattle.std.proofs.lemmas.List.{get_or_read}
use Rattle.scan_base.specs.declared.value.Value.{Value}
use Rattle.hash_join.specs.KeyRows.{row_key}
use Rattle.hash_join.specs.Pairs.{keys_join}
use Rattle.hash_join.specs.Rights.{key_at}
use Rattle.hash_join.proofs.walk.Walk.joins_next.Goals as goal

pub returns-then-index-clause-joins : goal.returns-then-index-clause-joins
returns-then-index-clause-joins c =
    let walk = c.args.self.now in
    let links = walk.chains.now.links.items in
    let repeats = walk.chains.now.repeats.items in
    let at = c.args.at in
    let linked : at < length links = omega (arith, c.requires.within, c.requires.whole.linked.links_count) in
    let marked : at < length repeats = omega (arith, c.requires.within, c.requires.whole.repeats.count) in
    let next = get_or_read links at c.args.next linked c.requires.next 0 in
    let says = sym (get_or_read repeats at c.index.result.now marked c.index.ensures false) ∙ c.if-index.true in
    let same = c.requires.whole.repeats.same at c.requires.within says ∙ ap (key_at walk.rights.now) (sym next) in
    λ there. c.requires.told ∙ ap (λ (key : List Value). keys_join (row_key walk.left) key) same
