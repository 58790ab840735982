use Rattle.std.proofs.Common.{◌≡◌, ◌<◌, ℕ, List, length, get_or, ap, sym, subst, ◌∙◌, arith}
use Rattle.scan_base.specs.declared.value.Value.TheVariants.{Null}
use Rattle.arrays.specs.Batch.{row_of}
use Rattle.arrays.specs.Column.{ColumnAt}
use Rattle.hash_join.specs.Pairs.{key_values}
use Rattle.hash_join.proofs.Cells.{part_at, same_parts}
use Rattle.hash_join.proofs.key_row.KeyRow.has_code_of.Goals as goal

pub returns : goal.returns
returns c =
    let at = c.args.self.now in
    let columns = at.batch.now.columns in
    let column = c.index-columns-self.result in
    let there : 0 < length at.key.now = omega (arith, c.if-self-ne1.false) in
    let is = c.index-columns-self.is ∙ ap (λ (cs : List ColumnAt). get_or cs (get_or at.key.now 0 0) column) c.columns-columns.ensures.columns in
    λ told.
    let first : get_or (key_values at.key.now (row_of columns at.row)) 0 Null ≡ get_or (key_values at.key.now (row_of columns c.args.other)) 0 Null =
    sym (part_at columns at.key.now at.row 0 column c.requires.row.columns there is)
    ∙ c.have_one_code.ensures told
    ∙ part_at columns at.key.now c.args.other 0 column c.requires.row.columns there is in
    same_parts at.key.now (row_of columns at.row) (row_of columns c.args.other)
    (λ i within.
    let only : 0 ≡ i = omega (arith, within, c.if-self-ne1.false) in
    subst (λ (part : ℕ). get_or (key_values at.key.now (row_of columns at.row)) part Null ≡ get_or (key_values at.key.now (row_of columns c.args.other)) part Null) only first)
