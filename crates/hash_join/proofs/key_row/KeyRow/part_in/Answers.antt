use Rattle.std.proofs.Common.{ap, get_or, ◌∙◌}
use Rattle.hash_join.proofs.Cells.{part_at}
use Rattle.hash_join.proofs.key_row.KeyRow.part_in.Goals as goal

pub returns : goal.returns
returns c =
    let at = c.args.self.now in
    let columns = at.batch.now.columns in
    let column = c.index-columns-self.result in
    c.value_at.ensures
    ∙ part_at columns at.key.now c.args.row c.args.number column c.requires.columns c.requires.there
    (c.index-columns-self.is
    ∙ ap (λ cs. get_or cs (get_or at.key.now c.args.number 0) column) c.columns-columns.ensures.columns)
