use Rattle.std.proofs.Common.{◌≤◌, ◌+◌, ◌∙◌, length, drop, refl, sym, ap, subst, arith, All}
use Rattle.std.specs.List.{list_any, flat_map}
use Rattle.std.proofs.lemmas.List.{take_all}
use Rattle.std.proofs.lemmas.List.Elements.{All-more}
use Rattle.std.proofs.lemmas.List.Folds.{list_any-append}
use Rattle.std.proofs.lemmas.Option.{slice_get_read}
use Rattle.arrays.specs.Batch.{rows_of}
use Rattle.table_versions.specs.KeptTables.{Stands}
use Rattle.table_versions.specs.Table.{is_long_text}
use Rattle.table_versions.proofs.Places.{split_at}
use Rattle.table_versions.proofs.cells.has_long_row.Goals as goal

pub loop-batch-preserved : goal.loop-batch-preserved
loop-batch-preserved c =
    let batches = c.args.batches.now in
    let batch = c.batch-item.result in
    let i = c.loop-batch.batch-index in
    let long = list_any is_long_text in
    let front = (split_at batches i batch (slice_get_read batches (length batches) i batch refl c.loop-batch-test.true c.batch-item.is)).0 in
    let short = c.if-is_long_batch.false in
    let none = rw c.batch.ensures at (c.is_long_batch.ensures.stands short) in
    let told = rw c.batch.ensures at (sym c.is_long_batch.ensures.long ∙ short) in
    record {
      long = c.loop-batch.invariant.long ∙ ap (λ left. list_any long (flat_map rows_of left)) front
          ∙ list_any-append long (rows_of batch) (flat_map rows_of (drop (i + 1) batches)) ∙ rw told refl;
      stand = All-more Stands batches i batch c.loop-batch-test.true c.loop-batch.invariant.stand (subst Stands c.batch-item.is none);
    }

pub returns-clause-stand : goal.returns-clause-stand
returns-clause-stand c = λ none.
    let batches = c.args.batches.now in
    let end : length batches ≤ c.loop-batch.batch-index = omega (arith, c.loop-batch-test.false) in
    subst (All Stands) (take_all c.loop-batch.batch-index batches end) c.loop-batch.invariant.stand
