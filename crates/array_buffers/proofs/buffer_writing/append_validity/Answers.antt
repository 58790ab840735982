use Rattle.std.proofs.Common.{◌+◌, sym, ◌∙◌, arith}
use Rattle.arrays.proofs.NullSlots.{valid_bits}
use Rattle.array_buffers.proofs.Lengths.{no_validity, some_validity}
use Rattle.std.proofs.Common.{append-nil}
use Rattle.array_buffers.proofs.buffer_writing.append_validity.Goals as goal

pub returns-then-null_count-eq0-clause-ok : goal.returns-then-null_count-eq0-clause-ok
returns-then-null_count-eq0-clause-ok c =
    rw (no_validity c.args.column.now (sym c.null_count.ensures ∙ c.if-null_count-eq0.true)) (sym (append-nil c.args.out.now.items))

pub returns-in-AtZeros-clause-ok : goal.returns-in-AtZeros-clause-ok
returns-in-AtZeros-clause-ok c =
    let column = c.args.column.now in
    let bits = c.in-AtZeros.bits.now in
    let at = rw c.slots.ensures at c.in-AtZeros.ensures in
    let within = c.len.ensures.stands.within in
    let valid = valid_bits column bits (λ j low. at.1 (column.first + j) (omega (arith, within))) (omega (arith, within, at.0)) in
    let written = some_validity column (λ none. c.if-null_count-eq0.false (c.null_count.ensures ∙ none)) in
    let ok = rw (c.len.ensures.count, c.first.ensures) at c.append_bits.ensures.ok in
    rw (written, valid) ok

pub returns-in_default : goal.returns-in_default
returns-in_default c =
    let written = some_validity c.args.column.now (λ none. c.if-null_count-eq0.false (c.null_count.ensures ∙ none)) in
    record { ok = rw written c.append_valid_slots.ensures.ok; begins = c.append_valid_slots.ensures.begins }
