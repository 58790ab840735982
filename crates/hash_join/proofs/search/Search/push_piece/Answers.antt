use Rattle.std.proofs.Common.{◌≤◌, ◌++◌, ℕ, length, get_or, sym, ap, ◌∙◌, arith}
use Rattle.hash_join.specs.declared.left_pieces.Start.{Start}
use Rattle.hash_join.specs.Searches.{ahead_of, first_left, probe_at}
use Rattle.hash_join.proofs.Piecing.{next_start, start_passed, start_stopped}
use Rattle.hash_join.proofs.search.Search.push_piece.Goals as goal

pub push_from-requires-clause-all : goal.push_from-requires-clause-all
push_from-requires-clause-all c =
    let piece = c.args.piece.now in
    let other : Start = record { left = 0; head = 0 } in
    (next_start c.args.self.now c.requires.whole piece.own piece.to piece.starts.now c.loop-start.start-index other c.loop-start-test.true c.loop-start.invariant.starts).here.head.all

pub push_from-requires-clause-there : goal.push_from-requires-clause-there
push_from-requires-clause-there c =
    let piece = c.args.piece.now in
    let other : Start = record { left = 0; head = 0 } in
    (next_start c.args.self.now c.requires.whole piece.own piece.to piece.starts.now c.loop-start.start-index other c.loop-start-test.true c.loop-start.invariant.starts).here.head.leads.there

pub returns-then-stop-len-clause-given : goal.returns-then-stop-len-clause-given
returns-then-stop-len-clause-given c =
    let search = c.args.self.now in
    let piece = c.args.piece.now in
    let starts = piece.starts.now in
    let number = c.loop-start.start-index in
    let made = c.loop-start.made.pairs.items in
    let other : Start = record { left = 0; head = 0 } in
    let next = next_start search c.requires.whole piece.own piece.to starts number other c.loop-start-test.true c.loop-start.invariant.starts in
    start_stopped search c.requires.whole piece.own piece.to _ (get_or starts number other) next.here c.in_ok-stop.stop c.args.most made c.push_from.new.made.pairs.items
    (c.args.made.now.pairs.items ++ ahead_of search (probe_at (first_left piece.to starts) 0))
    (record {
      all = ap (λ (left : ℕ). made ++ ahead_of search (probe_at left 0)) (sym next.first) ∙ c.loop-start.invariant.all;
      few = c.loop-start.invariant.few;
    }) c.in_ok-stop.ensures.given

pub loop-start-preserved : goal.loop-start-preserved
loop-start-preserved c =
    let search = c.args.self.now in
    let piece = c.args.piece.now in
    let starts = piece.starts.now in
    let number = c.loop-start.start-index in
    let made = c.loop-start.made.pairs.items in
    let other : Start = record { left = 0; head = 0 } in
    let next = next_start search c.requires.whole piece.own piece.to starts number other c.loop-start-test.true c.loop-start.invariant.starts in
    let past : length search.rights.now.places.items ≤ c.in_ok-stop.stop = omega (arith, c.if-stop-len.false, c.len.ensures, search.rights.now.places.ok) in
    record {
      starts = next.later;
      all = start_passed search c.requires.whole piece.own piece.to _ (get_or starts number other) next.here c.in_ok-stop.stop c.args.most made c.push_from.new.made.pairs.items
          (c.args.made.now.pairs.items ++ ahead_of search (probe_at (first_left piece.to starts) 0))
          (record {
            all = ap (λ (left : ℕ). made ++ ahead_of search (probe_at left 0)) (sym next.first) ∙ c.loop-start.invariant.all;
            few = c.loop-start.invariant.few;
          }) c.in_ok-stop.ensures.given past;
      compared = c.in_ok-stop.ensures.compared;
      few = c.in_ok-stop.ensures.few;
    }
