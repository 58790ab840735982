use Rattle.std.proofs.Common.{◌≡◌, sym, ◌∙◌}
use Rattle.arrays.specs.Nulls.{null_count}
use Rattle.arrays.specs.Column.{IsColumn}
use Rattle.array_select.proofs.GatheredMany.{all_more, none_counted}
use Rattle.array_select.proofs.many_places.SlotPlaces.have_nulls.Goals as goal

pub loop-column-preserved : goal.loop-column-preserved
loop-column-preserved c =
    let columns = c.args.self.now.columns.now in
    let i = c.loop-column.column-index in
    let column = c.column-item.result in
    record {
      nulls = λ none.
          let counted = none_counted c.loop-column.nulls c.null_count.result none in
          all_more (λ one. null_count one ≡ 0) (λ one. one.now) columns i column c.loop-column-test.true c.column-item.is
          (sym c.null_count.ensures ∙ counted.1) (c.loop-column.invariant.nulls counted.0);
      stand = all_more IsColumn (λ one. one.now) columns i column c.loop-column-test.true c.column-item.is c.len-count.ensures.stands c.loop-column.invariant.stand;
    }
