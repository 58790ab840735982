use Rattle.std.proofs.Common.{◌≡◌, true, false, sym, ap, ◌∙◌}
use Rattle.std.specs.List.{list_any}
use Rattle.std.specs.Option.{option_copied}
use Rattle.std.specs.Str.{bytes_eq}
use Rattle.sql_query.specs.Sentence.{place_name}
use Rattle.query_binder.specs.PlaceTables.{names_of}
use Rattle.query_binder.proofs.LookedUp.{absent, taken, free}
use Rattle.query_binder.proofs.places.place_table.Goals as goal

pub returns-in_default : goal.returns-in_default
returns-in_default c =
    absent c.args.catalog.now (names_of c.args.first.now c.args.joins.now) c.args.place.now
    (sym c.get.ensures ∙ ap option_copied c.in_default.is)

pub returns-then-is_taken : goal.returns-then-is_taken
returns-then-is_taken c =
    let names = names_of c.args.first.now c.args.joins.now in
    let known : list_any (bytes_eq (place_name c.args.place.now)) names ≡ true =
    ap (λ name. list_any (bytes_eq name) names) (sym c.name.ensures) ∙ sym c.is_taken.ensures ∙ c.if-is_taken.true in
    taken c.args.catalog.now names c.args.place.now c.in-Some.table.now
    (sym c.get.ensures ∙ ap option_copied c.in-Some.is) known

pub returns : goal.returns
returns c =
    let names = names_of c.args.first.now c.args.joins.now in
    let there = sym c.get.ensures ∙ ap option_copied c.in-Some.is in
    let unknown : list_any (bytes_eq (place_name c.args.place.now)) names ≡ false =
    ap (λ name. list_any (bytes_eq name) names) (sym c.name.ensures) ∙ sym c.is_taken.ensures ∙ c.if-is_taken.false in
    (free c.args.catalog.now names c.args.place.now c.in-Some.table.now there unknown, there)
