use Rattle.std.proofs.Common.{List, get_or, ap, sym, ◌∙◌}
use Rattle.arrays.specs.Column.{ColumnAt}
use Rattle.coded_keys.proofs.Parts.{part_at}
use Rattle.coded_keys.proofs.key_part.KeyPart.has_code_of.Goals as goal

pub returns : goal.returns
returns c =
    let at = c.args.self.now in
    let columns = at.batch.now.columns in
    let column = c.index-columns-self.result in
    let is = c.index-columns-self.is ∙ ap (λ (cs : List ColumnAt). get_or cs (get_or at.columns.now at.part 0) column) c.columns-columns.ensures.columns in
    λ told. sym (part_at columns at.columns.now at.row at.part column at.there at.named is)
    ∙ c.have_one_code.ensures told
    ∙ part_at columns at.columns.now c.args.row at.part column at.there at.named is
