use Rattle.std.proofs.Common.{◌≡◌, ◌++◌, sym, subst, rules}
use Rattle.flight_client.specs.inside.TypedColumns.{HaveColumns, HasSchema}
use Rattle.flight_client.proofs.Typed.{rows_begun, rows_more}
use Rattle.flight_client.proofs.rows.Rows.with.Goals as goal

pub invariant_of-result : goal.invariant_of-result
invariant_of-result c =
    rows_begun c.stream.inside.reader c.into_schema.result c.in_ok-schema.schema c.stream.inside.batches.items c.into_schema.ensures.value c.into_schema.ensures.valid c.in_ok-schema.ensures.ok_part c.stream.invariant

pub invariant_of-rows : goal.invariant_of-rows
invariant_of-rows c =
    let rows = c.rows.inside in
    let grown : c.append.new.self.items ≡ rows.batches.items ++ c.stream.inside.batches.items = search rules in
    let fits : HasSchema rows.schema c.args.stream = search rules in
    let state : c.stream.inside.reader ≡ (c.args.stream).state = search rules in
    (c.rows.invariant.0, subst (HaveColumns rows.schema) (sym grown) (rows_more rows.schema c.args.stream c.stream.inside.reader rows.batches.items c.stream.inside.batches.items state fits c.rows.invariant.1 c.stream.invariant))
