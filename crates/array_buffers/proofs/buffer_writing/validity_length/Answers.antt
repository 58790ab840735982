use Rattle.std.proofs.Common.{ℕ, sym, ap, ◌∙◌, refl}
use Rattle.std.specs.Int.{div_ceil}
use Rattle.arrays.specs.Nulls.{valid_slots}
use Rattle.array_buffers.proofs.Lengths.{no_validity, some_validity, length-packed}
use Rattle.arrays.proofs.NullSlots.{length-valid_slots}
use Rattle.array_buffers.proofs.buffer_writing.validity_length.Goals as goal

pub returns-then-null_count-eq0 : goal.returns-then-null_count-eq0
returns-then-null_count-eq0 c = rw (no_validity c.args.column.now (sym c.null_count.ensures ∙ c.if-null_count-eq0.true)) refl

pub returns-else-null_count-eq0 : goal.returns-else-null_count-eq0
returns-else-null_count-eq0 c =
    let column = c.args.column.now in
    rw (some_validity column (λ none. c.if-null_count-eq0.false (c.null_count.ensures ∙ none)))
    (c.div_ceil.ensures ∙ ap (λ (n : ℕ). div_ceil n 8) (c.len.ensures.count ∙ sym (length-valid_slots column)) ∙ sym (length-packed (valid_slots column)))
