use Rattle.std.proofs.Common.{◌≡◌, ℕ, ◌-◌, [], ◌∷◌, length, sym, ap, subst, arith}
use Rattle.std.proofs.lemmas.List.{length-append}
use Rattle.arrays.specs.Batch.{BatchAt}
use Rattle.arrays.specs.Column.{ColumnAt}
use Rattle.grouping.specs.inside.Finishing.{groups_in, IsItemColumn, IsGroupBatch}
use Rattle.grouping.proofs.Finishing.{columns_more, batch_made}
use Rattle.grouping.proofs.batches.GroupRows.batch.Goals as goal

pub loop-item-preserved : goal.loop-item-preserved
loop-item-preserved c =
    let columns = c.loop-item.columns.items in
    let column = c.in_ok-column.field-0 in
    let many = c.args.to - c.args.from in
    record {
      long = omega (arith, ap length c.in_ok-push.ensures.items, length-append columns (column ∷ []), c.loop-item.invariant.long);
      each = λ i d low. rw c.in_ok-push.ensures.items
          (columns_more (λ (i : ℕ) (column : ColumnAt). IsItemColumn (groups_in c.args.self.now) i c.args.from many column) columns column c.loop-item.item
          c.loop-item.invariant.long c.loop-item.invariant.each c.in_ok-column.ensures i d low);
    }

pub returns : goal.returns
returns c =
    let columns = c.loop-item.columns.items in
    let many = c.args.to - c.args.from in
    let all : c.loop-item.item ≡ length c.args.self.now.items.now = omega arith in
    let long : length columns ≡ length c.args.self.now.items.now = omega (arith, c.loop-item.invariant.long) in
    subst (λ (batch : BatchAt). IsGroupBatch (groups_in c.args.self.now) c.args.from many batch) (sym c.new.ensures)
    (batch_made (groups_in c.args.self.now) c.args.from many columns long (λ i d low. c.loop-item.invariant.each i d (omega arith)))
