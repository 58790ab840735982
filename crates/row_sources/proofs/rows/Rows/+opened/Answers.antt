use Rattle.std.proofs.Common.{sym, subst}
use Rattle.std.specs.Arc.{arc_value}
use Rattle.row_sources.specs.declared.rows.Source.{Source}
use Rattle.row_sources.specs.JoinedRows.{source_at}
use Rattle.row_sources.specs.Parting.{ComeInOrder}
use Rattle.row_sources.specs.Picking.{pick_of}
use Rattle.row_sources.proofs.PartPlace.{place_in_order}
use Rattle.row_sources.proofs.PartRows.{joined_in_order, picked_in_order}
use Rattle.row_sources.proofs.rows.Rows.+opened.Goals as goal

pub returns-in-Place-clause-ordered : goal.returns-in-Place-clause-ordered
returns-in-Place-clause-ordered t c =
    let source = c.self.inside.source in
    let is = rw c.in-Place.is at c.self.invariant in
    subst ComeInOrder c.self.view_is (picked_in_order (pick_of (arc_value c.self.inside.picker)) (source_at source)
    (subst (λ (s : Source). ComeInOrder (source_at s)) (sym c.in-Place.is) (place_in_order c.in-Place.place.table c.in-Place.place.cursor is.0)))

pub returns-in-Joined-clause-ordered : goal.returns-in-Joined-clause-ordered
returns-in-Joined-clause-ordered t c =
    let source = c.self.inside.source in
    let is = rw c.in-Joined.is at c.self.invariant in
    subst ComeInOrder c.self.view_is (picked_in_order (pick_of (arc_value c.self.inside.picker)) (source_at source)
    (subst (λ (s : Source). ComeInOrder (source_at s)) (sym c.in-Joined.is)
    (joined_in_order c.in-Joined.left.value c.in-Joined.field-1.joiner c.in-Joined.field-1.number is.0 (subst ComeInOrder c.deref.ensures c.opened.ensures.ordered))))
