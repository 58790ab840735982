use Rattle.std.proofs.Common.{List, get_or, ap, sym, ◌∙◌}
use Rattle.arrays.specs.Column.{ColumnAt}
use Rattle.coded_keys.proofs.Parts.{part_at}
use Rattle.coded_keys.proofs.rows.KeyRows.is_alike.Goals as goal

pub returns : goal.returns
returns c =
    let keys = c.args.self.now in
    let columns = keys.batch.now.columns in
    let column = c.index-columns-self.result in
    let is = c.index-columns-self.is ∙ ap (λ (cs : List ColumnAt). get_or cs (get_or keys.columns.now c.args.part 0) column) c.columns-columns.ensures.columns in
    λ told. sym (part_at columns keys.columns.now (get_or keys.rows.now c.args.place 0) c.args.part column c.args.self.now.there c.requires.part is)
    ∙ c.have_one_code.ensures told
    ∙ part_at columns keys.columns.now (get_or keys.rows.now c.args.other 0) c.args.part column c.args.self.now.there c.requires.part is
