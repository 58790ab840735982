use Rattle.std.proofs.Common.{ℕ, List, take, ◌∙◌, subst, ◌≤◌}
use Rattle.std.specs.List.{sum_by}
use Rattle.std.proofs.lemmas.List.{length-map, length-take-le}
use Rattle.arrow_types.specs.declared.data_type.DataType.{DataType}
use Rattle.arrays.specs.Batch.{AreLong}
use Rattle.array_select.specs.Room.{allowed, most_batch_texts}
use Rattle.join_batches.specs.Rows.{pair_row}
use Rattle.join_batches.specs.BatchSides.{rows_at}
use Rattle.join_batches.proofs.Light.{all_named}
use Rattle.join_batches.proofs.Made.{all_long, batch_made}
use Rattle.join_batches.proofs.batch_sides.BatchSides.joined.Goals as goal

pub columns-requires-clause-named : goal.columns-requires-clause-named
columns-requires-clause-named c =
    rw c.first.ensures.pairs
    (all_named c.args.self.now c.text_share-share.result (take c.in_ok-count.count c.args.pairs.now) c.args.shown.now c.in_ok-count.ensures.light)

pub new-requires : goal.new-requires
new-requires c =
    let sides = c.args.self.now in
    let pairs = c.args.pairs.now in
    let count = c.in_ok-count.count in
    subst (λ (rows : ℕ). AreLong rows c.in_ok-columns.columns.items)
    (length-map (take count pairs) (pair_row sides.rights.now sides.left.now) ∙ length-take-le count pairs c.in_ok-count.ensures.within)
    (all_long (rows_at sides (take count pairs)) c.args.shown.now c.in_ok-columns.columns.items (rw c.first.ensures.pairs at c.in_ok-columns.ensures.cells))

pub returns : goal.returns
returns c =
    rw c.new.ensures
    (batch_made c.args.self.now c.text_share-share.result c.args.shown.now c.args.pairs.now c.in_ok-count.count c.in_ok-columns.columns.items c.requires.sides c.requires.there
    c.requires.cells
    (subst (λ (types : List DataType). sum_by (allowed c.text_share-share.result) types ≤ most_batch_texts) (c.as_slice-3.ensures.value ∙ c.in_ok-types.ensures) c.text_share-share.ensures.all)
    c.in_ok-count.ensures (rw c.first.ensures.pairs at c.in_ok-columns.ensures.cells) c.in_ok-columns.ensures.typed)

pub how_many_fit-requires-clause-placed : goal.how_many_fit-requires-clause-placed
how_many_fit-requires-clause-placed c = record { lefts = c.as_slice.ensures.value ∙ c.in_ok-lefts.ensures; rights = c.as_slice-2.ensures.value ∙ c.in_ok-rights.ensures }
