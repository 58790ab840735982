use Rattle.std.proofs.Common.{◌≡◌, List, ℕ, [], ◌∷◌, ap, arith}
use Rattle.table_versions.specs.StoredTables.{tables_of}
use Rattle.flight_info.proofs.Describing.{tables_described}
use Rattle.flight_info.proofs.info.describe_tables.Goals as goal

pub returns : goal.returns
returns c =
    let ticket = c.in_ok-ticket_of.field-0 in
    let pushed : c.push.new.self.items ≡ ticket ∷ [] = rw c.new-tickets.ensures.items at c.in_ok-push.ensures.items in
    tables_described (tables_of c.args.snapshot.now.catalog) c.in_ok-form.form.items (rw c.in_ok-tables_schema.ensures.schema at c.in_ok-form.ensures.form) c.in_ok-form.ensures.small
    c.args.snapshot.now.number c.args.parts _ (omega (arith, c.number.ensures))
    (rw pushed (ap (λ (bytes : List ℕ). bytes ∷ []) (rw c.number.ensures at c.in_ok-ticket_of.ensures)))
