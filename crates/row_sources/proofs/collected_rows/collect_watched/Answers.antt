use Rattle.std.proofs.Common.{◌++◌, List, length, ap, sym, ◌∙◌, arith}
use Rattle.std.specs.List.{flat_map}
use Rattle.arrays.specs.Batch.{rows_of}
use Rattle.table_versions.specs.Table.{Row}
use Rattle.row_sources.specs.CollectedRows.{plain_rows}
use Rattle.row_sources.specs.Running.{FindsPiece, FindsNone, LooksOn}
use Rattle.row_sources.proofs.AllRows.{one_more, one_typed}
use Rattle.row_sources.proofs.JoinSteps.{on_and_on}
use Rattle.row_sources.proofs.collected_rows.collect_watched.Goals as goal

pub loop-batches-smaller-in-Continue-branch-4 : goal.loop-batches-smaller-in-Continue-branch-4
loop-batches-smaller-in-Continue-branch-4 g c =
    let finds : FindsPiece c.loop-batches.rows c.in-Given.piece c.turn.new.self = rw (c.in_ok-piece.was, c.in-Given.is) at c.turn.ensures.found in
    finds.looked

pub loop-batches-preserved-in-Continue-branch-4 : goal.loop-batches-preserved-in-Continue-branch-4
loop-batches-preserved-in-Continue-branch-4 g c =
    let finds : FindsPiece c.loop-batches.rows c.in-Given.piece c.turn.new.self = rw (c.in_ok-piece.was, c.in-Given.is) at c.turn.ensures.found in
    let is = c.loop-batches.invariant in
    let batches = c.loop-batches.batches.items in
    let all = c.push.new.self.items in
    let items = c.in_ok-push-in-Given.ensures.items in
    record {
      rows = one_more c.args.rows.now c.loop-batches.rows c.turn.new.self c.in-Given.piece batches all finds items is.rows;
      each = one_typed c.args.rows.now c.loop-batches.rows c.turn.new.self c.in-Given.piece batches all finds items is.on.types is.each;
      on = on_and_on c.args.rows.now c.loop-batches.rows c.turn.new.self is.on finds.on;
      ready = c.in_ok-tell-in-Given.ensures.ready;
      watched = g.met.W.Watches.again _ _ _ is.watched c.in_ok-tell-in-Given.ensures.watched;
    }

-- where none is given, fewer rows are left to be looked at
pub loop-batches-smaller : goal.loop-batches-smaller
loop-batches-smaller g c =
    let none : FindsNone c.loop-batches.rows c.turn.new.self × LooksOn c.watched_patience-patience.result c.loop-batches.rows.unseen c.turn.new.self.unseen = rw (c.in_ok-piece.was, c.in-Working.is) at c.turn.ensures.found in
    none.1.1 c.watched_patience-patience.ensures

pub loop-batches-preserved : goal.loop-batches-preserved
loop-batches-preserved g c =
    let none : FindsNone c.loop-batches.rows c.turn.new.self × LooksOn c.watched_patience-patience.result c.loop-batches.rows.unseen c.turn.new.self.unseen = rw (c.in_ok-piece.was, c.in-Working.is) at c.turn.ensures.found in
    let is = c.loop-batches.invariant in
    record {
      rows = ap (λ (rest : List Row). flat_map rows_of c.loop-batches.batches.items ++ rest) (ap plain_rows (sym none.0.same)) ∙ is.rows;
      each = is.each;
      on = on_and_on c.args.rows.now c.loop-batches.rows c.turn.new.self is.on none.0.on;
      ready = c.in_ok-tell-in-Working.ensures.ready;
      watched = g.met.W.Watches.again _ _ _ is.watched c.in_ok-tell-in-Working.ensures.watched;
    }
