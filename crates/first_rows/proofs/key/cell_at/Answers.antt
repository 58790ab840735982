use Rattle.std.proofs.Common.{length, sym, ap, ◌∙◌}
use Rattle.arrays.specs.Column.{slot_of}
use Rattle.first_rows.proofs.KeyCells.{key_slot, key_there}
use Rattle.first_rows.proofs.key.cell_at.Goals as goal

pub returns : goal.returns
returns c =
    let keys = c.args.columns.now in
    let columns = c.args.batch.now.columns in
    let there = key_there keys (length columns) c.args.place c.requires.place c.requires.there in
    let at = key_slot columns c.args.row keys c.args.place c.index-columns-columns.result c.requires.place there in
    c.value_at.ensures ∙ ap (λ column. slot_of column c.args.row) (rw c.columns.ensures.columns at c.index-columns-columns.is) ∙ sym at
