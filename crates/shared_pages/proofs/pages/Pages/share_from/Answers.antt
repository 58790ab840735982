use Rattle.std.proofs.Common.{rules, arith, ◌≡◌, ◌∙◌, ◌+◌, ◌*◌, ◌/◌, ◌%◌, ◌<◌, ◌≤◌, ◌++◌, sym, ap, List, length, map, drop, suc, [], append-nil}
use Rattle.std.proofs.lemmas.List.{length-map}
use Rattle.std.specs.Arc.{arc_value}
use Rattle.std.proofs.lemmas.Nat.{div-add-mod'}
use Rattle.shared_pages.specs.Pages.{joined}
use Rattle.shared_pages.proofs.Lists.{handle_at}
use Rattle.shared_pages.proofs.Paging.{full_at, full_behind, from_page, from_last, length-joined}
use Rattle.shared_pages.proofs.pages.Pages.share_from.Goals as goal

pub share_from-requires : goal.share_from-requires
share_from-requires g c =
    let handles = c.self.inside.full.items in
    let page = handle_at arc_value handles (c.args.first / 256) _ c.index.result.now (search rules) c.if-page-len.true c.index.ensures in
    let long = full_at (map arc_value handles) (arc_value c.index.result.now) (c.args.first / 256) c.self.invariant.complete page in
    rw (c.deref.ensures) (omega (arith, long))

-- the pages after the one that is cut
pub invariant_of-result : goal.invariant_of-result
invariant_of-result g c =
    let pages = map arc_value c.self.inside.full.items in
    let full : map arc_value c.in_ok-full.full.items ≡ drop (c.args.first / 256 + 1) pages = search (rules, c.in_ok-full.ensures) in
    let last : c.in_ok-last.last ≡ c.self.inside.last = search (rules, c.in_ok-last.ensures) in
    rw (full, last) (record { complete = full_behind (c.args.first / 256 + 1) pages c.self.invariant.complete; unfilled = c.self.invariant.unfilled })

pub returns-then-page-len : goal.returns-then-page-len
returns-then-page-len g c =
    let handles = c.self.inside.full.items in
    let pages = map arc_value handles in
    let page = handle_at arc_value handles (c.args.first / 256) _ c.index.result.now (search rules) c.if-page-len.true c.index.ensures in
    let full : map arc_value c.in_ok-full.full.items ≡ drop (c.args.first / 256 + 1) pages = search (rules, c.in_ok-full.ensures) in
    let last : c.in_ok-last.last ≡ c.self.inside.last = search (rules, c.in_ok-last.ensures) in
    let front : map arc_value c.in_ok-handles.handles.items ≡ drop (c.args.first % 256) (arc_value c.index.result.now) = rw (← c.deref.ensures) (search (rules, c.in_ok-handles.ensures)) in
    let whole = from_page pages c.self.inside.last (arc_value c.index.result.now) (c.args.first / 256) (c.args.first % 256) c.args.first c.self.invariant.complete page (omega arith) (sym (div-add-mod' c.args.first 256)) in
    let next : c.args.first / 256 + 1 ≡ suc (c.args.first / 256) = omega arith in
    rw (← c.self.view_is) (rw (full ∙ ap (λ n. drop n pages) next, last, front) (sym whole))

pub share_from-requires-2 : goal.share_from-requires-2
share_from-requires-2 g c =
    let pages = map arc_value c.self.inside.full.items in
    let within : c.args.first ≤ length (joined pages c.self.inside.last) = rw c.self.view_is c.requires in
    let count : c.len.result ≡ length pages = search (rules, length-map) in
    omega (arith, within, count, length-joined pages c.self.inside.last c.self.invariant.complete, c.if-page-len.false, c.self.invariant.unfilled)

pub returns : goal.returns
returns g c =
    let pages = map arc_value c.self.inside.full.items in
    let within : c.args.first ≤ length (joined pages c.self.inside.last) = rw c.self.view_is c.requires in
    let count : c.len.result ≡ length pages = search (rules, length-map) in
    let place : c.args.first ≡ length pages * 256 + c.args.first % 256 =
    omega (arith, within, count, length-joined pages c.self.inside.last c.self.invariant.complete, c.if-page-len.false, c.self.invariant.unfilled) in
    let front : map arc_value c.in_ok-handles-2.handles.items ≡ drop (c.args.first % 256) c.self.inside.last = search (rules, c.in_ok-handles-2.ensures) in
    let none : c.new.result ≡ [] = search (rules, c.new.ensures) in
    rw (← c.self.view_is) (rw (none, front) (append-nil (drop (c.args.first % 256) c.self.inside.last) ∙ sym (from_last pages c.self.inside.last c.args.first (c.args.first % 256) c.self.invariant.complete place)))
