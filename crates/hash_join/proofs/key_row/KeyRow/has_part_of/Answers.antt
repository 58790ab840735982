use Rattle.std.proofs.Common.{List, get_or, ap, sym, ◌∙◌}
use Rattle.arrays.specs.Column.{ColumnAt}
use Rattle.hash_join.proofs.Cells.{part_at}
use Rattle.hash_join.proofs.key_row.KeyRow.has_part_of.Goals as goal

pub returns : goal.returns
returns c =
    let at = c.args.self.now in
    let columns = at.batch.now.columns in
    let column = c.index-columns-self.result in
    let is = c.index-columns-self.is ∙ ap (λ (cs : List ColumnAt). get_or cs (get_or at.key.now c.args.part 0) column) c.columns-columns.ensures.columns in
    λ told. sym (part_at columns at.key.now at.row c.args.part column c.requires.row.columns c.requires.there is)
    ∙ c.have_one_number.ensures told
    ∙ part_at columns at.key.now c.args.other c.args.part column c.requires.row.columns c.requires.there is
