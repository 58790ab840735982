use Rattle.std.proofs.Common.{◌≡◌, ℕ, All, List, length, take, ap, sym, ◌∙◌, subst, refl, arith}
use Rattle.std.specs.List.{flat_map}
use Rattle.std.proofs.lemmas.List.{length-map}
use Rattle.std.proofs.lemmas.Result.{IfOk-weaker}
use Rattle.arrow_types.specs.declared.data_type.DataType.{DataType}
use Rattle.arrays.specs.Batch.{BatchAt, rows_of}
use Rattle.arrays.specs.TypedLayouts.{AreOf}
use Rattle.join_batches.specs.Joiner.{JoinerAt}
use Rattle.table_versions.specs.Table.{Row}
use Rattle.row_sources.specs.FilteredSource.{filtered_source_at}
use Rattle.row_sources.specs.CollectedRows.{AreCollected, plain_rows}
use Rattle.row_sources.specs.JoinParts.{joiner_with}
use Rattle.row_sources.specs.Running.{RowsAt}
use Rattle.row_sources.proofs.BeginJoin.{batches_few, places_many}
use Rattle.row_sources.proofs.join_source.joiner_of.Goals as goal

pub collect_watched-requires : goal.collect_watched-requires
collect_watched-requires g c =
    let right = filtered_source_at c.args.right in
    record {
      front = subst (λ (rows : RowsAt). take (length rows.opened) rows.batches ≡ rows.opened) (sym c.in_ok-rows.ensures)
          (subst (λ (opened : List ℕ). take (length opened) right.batches ≡ opened) (sym c.requires.unopened) refl);
      ready = c.requires.ready;
    }

pub new-requires-clause-typed : goal.new-requires-clause-typed
new-requires-clause-typed g c =
    let all = subst (λ (rows : RowsAt). AreCollected rows c.in_ok-batches.batches.items c.collect_watched.new.rows) c.in_ok-rows.ensures c.in_ok-batches.ensures.collected in
    subst (λ (types : List DataType). All (λ (batch : BatchAt). AreOf types batch.columns) c.in_ok-batches.batches.items) (sym c.requires.typed)
    (λ k d h. (all.each k d h).typed)

pub new-requires-clause-few : goal.new-requires-clause-few
new-requires-clause-few g c =
    let right = filtered_source_at c.args.right in
    let all = subst (λ (rows : RowsAt). AreCollected rows c.in_ok-batches.batches.items c.collect_watched.new.rows) c.in_ok-rows.ensures c.in_ok-batches.ensures.collected in
    let long = length-map right.ahead (λ (row : ℕ × Row). row.1) in
    omega (arith, long, places_many c.in_ok-batches.batches.items, ap length all.rows, c.requires.few)

pub new-requires-clause-counted : goal.new-requires-clause-counted
new-requires-clause-counted g c =
    let right = filtered_source_at c.args.right in
    let all = subst (λ (rows : RowsAt). AreCollected rows c.in_ok-batches.batches.items c.collect_watched.new.rows) c.in_ok-rows.ensures c.in_ok-batches.ensures.collected in
    let long = length-map right.ahead (λ (row : ℕ × Row). row.1) in
    omega (arith, long, batches_few c.in_ok-batches.batches.items (λ k d h. (all.each k d h).some), ap length all.rows, c.requires.few)

pub returns-clause-joiner : goal.returns-clause-joiner
returns-clause-joiner g c =
    let right = filtered_source_at c.args.right in
    let all = subst (λ (rows : RowsAt). AreCollected rows c.in_ok-batches.batches.items c.collect_watched.new.rows) c.in_ok-rows.ensures c.in_ok-batches.ensures.collected in
    IfOk-weaker c.new.result (λ (joiner : JoinerAt). joiner ≡ joiner_with c.args.seeded.sides (flat_map rows_of c.in_ok-batches.batches.items))
    (λ (joiner : JoinerAt). joiner ≡ joiner_with c.args.seeded.sides (plain_rows right.ahead))
    (λ (joiner : JoinerAt) is. is ∙ ap (joiner_with c.args.seeded.sides) all.rows)
    c.new.ensures.joiner
