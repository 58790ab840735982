use Rattle.std.proofs.Common.{◌≡◌, ◌+◌, ◌-◌, ◌∙◌, length, sym, ap, arith}
use Rattle.arrays.specs.declared.layout.Layout.TheVariants as layout
use Rattle.arrays.specs.Column.{values_of}
use Rattle.arrays.specs.WrittenSlots.{texts_joined}
use Rattle.array_buffers.proofs.Lengths.{stands_as}
use Rattle.arrays.proofs.Adjoining.{column_texts}
use Rattle.array_buffers.proofs.buffer_writing.adjoining_texts.Goals as goal

same_bytes : (c : goal.After-bytes_between) → c.bytes_between.result.now ≡ texts_joined (values_of c.args.column.now)
same_bytes c =
    let column = c.args.column.now in
    let cells = c.in-Texts.cells in
    let stands = stands_as column c.layout.result (layout.Texts cells) c.layout.ensures.value c.in-Texts.is c.len.ensures.stands in
    let texts = column_texts column cells (sym c.layout.ensures.value ∙ c.in-Texts.is)
    (λ place low. rw (sym c.layout.ensures.value ∙ c.in-Texts.is) at (c.may_have_nulls.ensures.slots c.if-not-may_have_nulls.true place low)) in
    let count : c.first-first.result + c.len.result - c.first-first.result ≡ column.len = omega (arith, c.len.ensures.count) in
    let read = rw (count, c.first-first.ensures) at c.bytes_between.ensures.bytes in
    read ∙ sym texts

pub returns-in-Texts-clause-bytes : goal.returns-in-Texts-clause-bytes
returns-in-Texts-clause-bytes c = same_bytes c

pub returns-in-Texts-clause-short : goal.returns-in-Texts-clause-short
returns-in-Texts-clause-short c = λ found. omega (arith, ap length (same_bytes c), c.bytes_between.ensures.short)
