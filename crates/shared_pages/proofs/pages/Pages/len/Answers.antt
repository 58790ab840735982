use Rattle.std.proofs.Common.{rules, arith, ◌≡◌, ◌<◌, ◌^◌, length, map}
use Rattle.std.proofs.lemmas.List.{length-map}
use Rattle.std.specs.Arc.{arc_value}
use Rattle.shared_pages.specs.Pages.{joined}
use Rattle.shared_pages.proofs.Paging.{length-joined}
use Rattle.shared_pages.proofs.pages.Pages.len.Goals as goal

pub overflow_mul-result : goal.overflow_mul-result
overflow_mul-result g c =
    let pages = map arc_value c.self.inside.full.items in
    let within : length (joined pages c.self.inside.last) < 2 ^ 64 = rw c.self.view_is c.requires in
    let count : c.len.result ≡ length pages = search (rules, length-map) in
    omega (arith, within, count, length-joined pages c.self.inside.last c.self.invariant.complete)

pub overflow_add-result : goal.overflow_add-result
overflow_add-result g c =
    let pages = map arc_value c.self.inside.full.items in
    let within : length (joined pages c.self.inside.last) < 2 ^ 64 = rw c.self.view_is c.requires in
    let count : c.len.result ≡ length pages = search (rules, length-map) in
    omega (arith, within, count, length-joined pages c.self.inside.last c.self.invariant.complete, c.len-2.ensures)

pub returns : goal.returns
returns g c =
    let pages = map arc_value c.self.inside.full.items in
    let count : c.len.result ≡ length pages = search (rules, length-map) in
    rw (← c.self.view_is)
    (omega (arith, count, length-joined pages c.self.inside.last c.self.invariant.complete, c.len-2.ensures))
