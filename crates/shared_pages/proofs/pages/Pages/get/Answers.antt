use Rattle.std.proofs.Common.{rules, arith, ◌≡◌, ◌∙◌, ◌+◌, ◌*◌, ◌/◌, ◌%◌, ◌<◌, slice_get, ap, sym, List, length, map}
use Rattle.std.proofs.lemmas.List.{length-map}
use Rattle.std.specs.Arc.{arc_value}
use Rattle.std.proofs.lemmas.Nat.{div-add-mod'}
use Rattle.shared_pages.specs.Pages.{joined}
use Rattle.shared_pages.proofs.Lists.{handle_at}
use Rattle.shared_pages.proofs.Paging.{full_at, in_page, in_last, length-joined}
use Rattle.shared_pages.proofs.pages.Pages.get.Goals as goal

pub get-requires : goal.get-requires
get-requires g c =
    let handles = c.self.inside.full.items in
    let page = handle_at arc_value handles (c.args.index / 256) _ c.index.result.now (search rules) c.if-page-len.true c.index.ensures in
    let long = full_at (map arc_value handles) (arc_value c.index.result.now) (c.args.index / 256) c.self.invariant.complete page in
    rw (c.deref.ensures) (omega (arith, long))

pub get-requires-else-page-len : goal.get-requires-else-page-len
get-requires-else-page-len g c =
    let pages = map arc_value c.self.inside.full.items in
    let within : c.args.index < length (joined pages c.self.inside.last) = rw c.self.view_is c.requires in
    let count : c.len.result ≡ length pages = search (rules, length-map) in
    omega (arith, within, count, length-joined pages c.self.inside.last c.self.invariant.complete, c.if-page-len.false, c.self.invariant.unfilled)

pub returns-then-page-len : goal.returns-then-page-len
returns-then-page-len g c =
    let handles = c.self.inside.full.items in
    let page = handle_at arc_value handles (c.args.index / 256) _ c.index.result.now (search rules) c.if-page-len.true c.index.ensures in
    let place = sym (div-add-mod' c.args.index 256) in
    rw (← c.self.view_is)
    (in_page (map arc_value handles) c.self.inside.last _ _ _ c.args.index c.self.invariant.complete page (omega arith) place
    ∙ ap (λ (items : List _). slice_get items (c.args.index % 256)) (sym c.deref.ensures) ∙ c.get.ensures)

pub returns-else-page-len : goal.returns-else-page-len
returns-else-page-len g c =
    let pages = map arc_value c.self.inside.full.items in
    let within : c.args.index < length (joined pages c.self.inside.last) = rw c.self.view_is c.requires in
    let count : c.len.result ≡ length pages = search (rules, length-map) in
    let place : c.args.index ≡ length pages * 256 + c.args.index % 256 =
    omega (arith, within, count, length-joined pages c.self.inside.last c.self.invariant.complete, c.if-page-len.false, c.self.invariant.unfilled) in
    rw (← c.self.view_is)
    (in_last pages c.self.inside.last c.args.index (c.args.index % 256) c.self.invariant.complete place
    ∙ c.get-else-page-len.ensures)
