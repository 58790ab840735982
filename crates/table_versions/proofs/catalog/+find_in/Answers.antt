use Rattle.std.proofs.Common.{arith, rules, ◌∙◌, ◌/◌, ◌≤◌, length, refl, sym}
use Rattle.std.specs.Arc.{arc_value}
use Rattle.shared_pages.proofs.Lists.{handle_at}
use Rattle.table_versions.proofs.Search.{in_front_half, front_half, in_back_half, back_half, found}
use Rattle.table_versions.proofs.catalog.+find_in.Goals as goal

pub find_in-requires : goal.find_in-requires
find_in-requires t c =
    let tables = c.args.tables.now in
    let middle = length tables / 2 in
    let some : 1 ≤ length tables = search (rules, c.is_empty.ensures, c.if-is_empty.false) in
    let at = handle_at arc_value tables middle _ c.index-tables-middle.result refl (omega (arith, some)) c.index-tables-middle.is in
    (search rules, in_front_half arc_value tables (arc_value c.index-tables-middle.result) middle c.args.name.now c.requires at)

pub find_in-requires-in-Greater : goal.find_in-requires-in-Greater
find_in-requires-in-Greater t c =
    let tables = c.args.tables.now in
    let middle = length tables / 2 in
    let some : 1 ≤ length tables = search (rules, c.is_empty.ensures, c.if-is_empty.false) in
    let at = handle_at arc_value tables middle _ c.index-tables-middle.result refl (omega (arith, some)) c.index-tables-middle.is in
    (search rules, in_back_half arc_value tables (arc_value c.index-tables-middle.result) middle c.args.name.now c.requires at)

pub returns-in-Less : goal.returns-in-Less
returns-in-Less t c =
    let tables = c.args.tables.now in
    let middle = length tables / 2 in
    let some : 1 ≤ length tables = search (rules, c.is_empty.ensures, c.if-is_empty.false) in
    let at = handle_at arc_value tables middle _ c.index-tables-middle.result refl (omega (arith, some)) c.index-tables-middle.is in
    let less = rw c.deref.ensures at (sym c.in-Less.ensures) in
    c.find_in.ensures ∙ sym (front_half arc_value tables (arc_value c.index-tables-middle.result) middle c.args.name.now c.requires at less)

pub returns-in-Equal : goal.returns-in-Equal
returns-in-Equal t c =
    let tables = c.args.tables.now in
    let middle = length tables / 2 in
    let some : 1 ≤ length tables = search (rules, c.is_empty.ensures, c.if-is_empty.false) in
    let at = handle_at arc_value tables middle _ c.index-tables-middle.result refl (omega (arith, some)) c.index-tables-middle.is in
    let equal = rw c.deref.ensures at (sym c.in-Equal.ensures) in
    rw c.deref-in-Equal.ensures (sym (found arc_value tables (arc_value c.index-tables-middle.result) middle c.args.name.now c.requires at equal))

pub returns-in-Greater : goal.returns-in-Greater
returns-in-Greater t c =
    let tables = c.args.tables.now in
    let middle = length tables / 2 in
    let some : 1 ≤ length tables = search (rules, c.is_empty.ensures, c.if-is_empty.false) in
    let at = handle_at arc_value tables middle _ c.index-tables-middle.result refl (omega (arith, some)) c.index-tables-middle.is in
    let greater = rw c.deref.ensures at (sym c.in-Greater.ensures) in
    c.find_in-in-Greater.ensures
    ∙ sym (back_half arc_value tables (arc_value c.index-tables-middle.result) middle c.args.name.now c.requires at greater)
