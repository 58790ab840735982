use Rattle.std.proofs.Common.{◌≡◌, [], sym, ap, ◌∙◌}
use Rattle.std.specs.Arc.{arc_value}
use Rattle.join_batches.specs.Joiner.{JoinerAt}
use Rattle.row_sources.specs.declared.picker.Picker.{Picker}
use Rattle.row_sources.specs.declared.rows.Source.{Source}
use Rattle.row_sources.specs.JoinedRows.{joined_at, source_at}
use Rattle.row_sources.specs.Parting.{part_of}
use Rattle.row_sources.specs.Picking.{pick_of}
use Rattle.row_sources.specs.Running.{RowsAt, picked_of}
use Rattle.row_sources.specs.Sources.{rows_of_place}
use Rattle.row_sources.proofs.PartRows.{own_unseen, part_joined, part_picked}
use Rattle.row_sources.proofs.rows.Rows.+part.Goals as goal

pub returns-in_ok-try_clone-in-Place : goal.returns-in_ok-try_clone-in-Place
returns-in_ok-try_clone-in-Place t c =
    let pick = pick_of (arc_value c.self.inside.picker) in
    let number = c.args.number in
    let unseen = (rows_of_place c.in_ok-part-in-Place.field-0).unseen in
    own_unseen c.new.result c.args.self.now number unseen
    (c.new.ensures
    ∙ ap (λ (p : Picker). picked_of (pick_of p) (rows_of_place c.in_ok-part-in-Place.field-0)) c.in_ok-try_clone-in-Place.ensures
    ∙ ap (picked_of pick) c.in_ok-part-in-Place.ensures.part
    ∙ part_picked pick number unseen (rows_of_place c.in-Place.place)
    ∙ ap (λ (source : Source). part_of number unseen (picked_of pick (source_at source))) (sym c.in-Place.is)
    ∙ ap (part_of number unseen) c.self.view_is)

pub returns-in_ok-try_clone-in-Joined : goal.returns-in_ok-try_clone-in-Joined
returns-in_ok-try_clone-in-Joined t c =
    let pick = pick_of (arc_value c.self.inside.picker) in
    let number = c.args.number in
    let left = c.in-Joined.left.value in
    let joining = c.in-Joined.joining in
    let made = c.in_ok-joiner-in-Joined.joiner in
    let is = rw c.in-Joined.is at c.self.invariant in
    let seen = c.in_ok-part-in-Joined.field-0.unseen in
    let unseen = (joined_at (part_of number seen left) (record joining.joiner { ahead = [] }) 0).unseen in
    let none : left.opened ≡ [] =
    ap (λ (source : Source). (source_at source).opened) (sym c.in-Joined.is) ∙ ap (λ (rows : RowsAt). rows.opened) c.self.view_is ∙ c.requires.unopened in
    own_unseen c.new-in-Joined-2.result c.args.self.now number unseen
    (c.new-in-Joined-2.ensures
    ∙ ap (λ (p : Picker). picked_of (pick_of p) (joined_at c.in_ok-left-in-Joined.left.value made 0)) c.in_ok-try_clone-in-Joined.ensures
    ∙ ap (λ (rows : RowsAt). picked_of pick (joined_at rows made 0)) (c.in_ok-left-in-Joined.ensures.ok ∙ c.in_ok-part-in-Joined.ensures ∙ ap (part_of number seen) c.deref.ensures)
    ∙ ap (λ (joiner : JoinerAt). picked_of pick (joined_at (part_of number seen left) joiner 0)) c.in_ok-joiner-in-Joined.ensures
    ∙ ap (picked_of pick) (part_joined left joining.joiner joining.number is.0 none number seen)
    ∙ part_picked pick number unseen (joined_at left joining.joiner joining.number)
    ∙ ap (λ (source : Source). part_of number unseen (picked_of pick (source_at source))) (sym c.in-Joined.is)
    ∙ ap (part_of number unseen) c.self.view_is)
