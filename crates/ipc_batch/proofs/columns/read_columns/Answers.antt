use Rattle.std.proofs.Common.{◌∙◌, ap, arith}
use Rattle.arrays.specs.Column.{ColumnAt}
use Rattle.ipc_batch.specs.inside.PartsView.{front_seen}
use Rattle.ipc_batch.proofs.ColumnsRead.{read_more, long_more}
use Rattle.ipc_batch.proofs.columns.read_columns.Goals as goal

pub loop-j-preserved : goal.loop-j-preserved
loop-j-preserved c =
    let source = c.args.source.now in
    record {
      read = read_more c.args.fields.now source.dictionaries.now source.rows source.body.now c.args.nodes.now c.loop-j.places.now c.loop-j.j c.index-fields-j.result _ (front_seen c.in_ok-front.front)
          c.loop-j.columns.items c.push.new.self.items c.new.result (omega (arith, c.loop-j-test.true)) (omega (arith, c.loop-j-test.true, c.requires)) c.index-fields-j.is c.in_ok-front.ensures.value
          c.new.ensures c.in_ok-push.ensures.items
          ∙ c.loop-j.invariant.read;
      long = long_more source.rows c.loop-j.columns.items c.push.new.self.items c.new.result c.loop-j.invariant.long
          (ap (λ (column : ColumnAt). column.len) c.new.ensures ∙ c.in_ok-front.ensures.long) c.in_ok-push.ensures.items;
    }
