use Rattle.std.proofs.Common.{◌-◌, arith}
use Rattle.std.proofs.lemmas.List.FromFn.{length-map-range_with_len}
use Rattle.std.proofs.lemmas.Result.{on_ok_weaker}
use Rattle.arrays.specs.Batch.{row_of}
use Rattle.group_slots.specs.HeldTallies.{tallies_in}
use Rattle.group_slots.proofs.RangeTallies.{the_one, span_added, span_within}
use Rattle.group_slots.proofs.row_span.RowSpan.add_to.Goals as goal

pub add_more-requires-clause-few : goal.add_more-requires-clause-few
add_more-requires-clause-few c =
    let s = c.args.self.now in
    let old = the_one s.fed (tallies_in c.args.tallies.now) c.requires.one c.requires.small in
    omega (arith, old.1, c.in_ok-more.ensures.few, length-map-range_with_len (row_of s.batch.now.columns) s.from (s.to - s.from), c.requires.few)

pub add_more-requires-clause-small : goal.add_more-requires-clause-small
add_more-requires-clause-small c =
    let old = the_one c.args.self.now.fed (tallies_in c.args.tallies.now) c.requires.one c.requires.small in
    old.2

pub add_more-requires-clause-more : goal.add_more-requires-clause-more
add_more-requires-clause-more c = c.in_ok-more.ensures.small

pub returns-clause-added : goal.returns-clause-added
returns-clause-added c =
    let s = c.args.self.now in
    on_ok_weaker c.add_more.result
    (λ made.
    span_added c.args.item s.batch.now.columns s.from (s.to - s.from) (tallies_in c.args.tallies.now) (tallies_in c.add_more.new.tallies) c.in_ok-more.more
    c.requires.one made c.in_ok-more.ensures)
    c.add_more.ensures

pub returns-clause-small : goal.returns-clause-small
returns-clause-small c =
    let s = c.args.self.now in
    on_ok_weaker c.add_more.result
    (λ made.
    span_within c.args.item s.batch.now.columns s.from (s.to - s.from) s.fed (tallies_in c.args.tallies.now) (tallies_in c.add_more.new.tallies) c.in_ok-more.more
    c.requires.one made c.in_ok-more.ensures c.requires.small)
    c.add_more.ensures
