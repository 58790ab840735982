use Rattle.std.proofs.Common.{◌≡◌, ◌≤◌, ◌<◌, ◌++◌, List, IfOk, length, refl, subst, arith}
use Rattle.hash_join.specs.declared.pair.Pair.{Pair}
use Rattle.hash_join.specs.Searches.{ahead_of}
use Rattle.hash_join.proofs.Searching.{passed, stopped}
use Rattle.hash_join.proofs.search.Search.push_pieces.Goals as goal

pub returns-then-stop-len-clause-given : goal.returns-then-stop-len-clause-given
returns-then-stop-len-clause-given g c =
    let search = c.args.self.now in
    let probe = c.args.probe.now in
    let made = c.args.made.now.pairs.items in
    let low : probe.left < search.left.batch.now.rows = omega (arith, c.if-probe-rows.false, c.rows.ensures) in
    stopped search c.requires.whole probe.left probe.from c.in_ok-stop.stop c.args.most made c.push_row.new.made.pairs.items (made ++ ahead_of search probe) low
    (record { all = refl; few = c.requires.few }) c.in_ok-stop.ensures.given

pub returns-clause-given : goal.returns-clause-given
returns-clause-given g c =
    let search = c.args.self.now in
    let probe = c.args.probe.now in
    let made = c.args.made.now.pairs.items in
    let low : probe.left < search.left.batch.now.rows = omega (arith, c.if-probe-rows.false, c.rows.ensures) in
    let past : length search.rights.now.places.items ≤ c.in_ok-stop.stop = omega (arith, c.if-stop-len.false, c.len.ensures, search.rights.now.places.ok) in
    subst (λ (whole : List Pair). IfOk c.push_rows.result (λ stop. c.push_rows.new.made.pairs.items ++ ahead_of search stop ≡ whole))
    (passed search c.requires.whole probe.left probe.from c.in_ok-stop.stop c.args.most made c.push_row.new.made.pairs.items (made ++ ahead_of search probe) low
    (record { all = refl; few = c.requires.few }) c.in_ok-stop.ensures.given past)
    c.push_rows.ensures.given
