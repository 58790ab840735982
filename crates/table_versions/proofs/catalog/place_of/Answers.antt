use Rattle.std.proofs.Common.{◌∙◌, sym, refl}
use Rattle.std.specs.Arc.{arc_value}
use Rattle.shared_pages.proofs.Lists.{handle_at}
use Rattle.table_versions.proofs.Places.{placed_there, placed_before, passed}
use Rattle.table_versions.proofs.catalog.place_of.Goals as goal

pub returns-then-eq : goal.returns-then-eq
returns-then-eq c =
    let at = handle_at arc_value c.args.tables.now c.loop-index.index _ c.index-tables-index.result refl c.loop-index-test.true c.index-tables-index.is in
    let same = rw c.deref.ensures at (sym c.eq.ensures ∙ c.if-eq.true) in
    placed_there _ c.args.name.now c.loop-index.index _ c.loop-index.invariant at same

pub returns-then-is_lt : goal.returns-then-is_lt
returns-then-is_lt c =
    let at = handle_at arc_value c.args.tables.now c.loop-index.index _ c.index-tables-index.result refl c.loop-index-test.true c.index-tables-index.is in
    let other = rw c.deref.ensures at (sym c.eq.ensures ∙ c.if-eq.false) in
    let below = rw (c.cmp.ensures, c.deref-in-loop-index.ensures) at (sym c.is_lt.ensures ∙ c.if-is_lt.true) in
    placed_before _ c.args.name.now c.loop-index.index _ c.loop-index.invariant at other below

pub loop-index-preserved : goal.loop-index-preserved
loop-index-preserved c =
    let at = handle_at arc_value c.args.tables.now c.loop-index.index _ c.index-tables-index.result refl c.loop-index-test.true c.index-tables-index.is in
    let other = rw c.deref.ensures at (sym c.eq.ensures ∙ c.if-eq.false) in
    let above = rw (c.cmp.ensures, c.deref-in-loop-index.ensures) at (sym c.is_lt.ensures ∙ c.if-is_lt.false) in
    passed _ c.args.name.now c.loop-index.index _ c.loop-index.invariant at other above
