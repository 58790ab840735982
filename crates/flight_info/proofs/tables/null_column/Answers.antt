use Rattle.std.proofs.Common.{◌≡◌, ◌+◌, ◌*◌, Some, refl, ◌∙◌}
use Rattle.flight_info.specs.inside.ListedTables.{nulls_listed}
use Rattle.flight_info.proofs.Listed.{zeros, null_slots, read_same, never_refused}
use Rattle.flight_info.proofs.tables.null_column.Goals as goal

pub unreachable-requires : goal.unreachable-requires
unreachable-requires c =
    let bits = c.in_ok-clone.field-0 in
    let offsets = c.in_ok-zeros.zeros in
    let n = 4 * (c.len-len.result + 1) in
    let are : offsets ≡ zeros n = c.in_ok-zeros.ensures.ok ∙ c.in_ok-vec.ensures.items_if_clones_equal (λ y same. same) in
    let slots = null_slots c.args.catalog.now bits offsets c.new.result n c.len-len.result are c.in_ok-clone.ensures.cases c.new.ensures refl c.len-len.ensures.count in
    never_refused (Some bits) offsets c.new.result c.len-len.result (nulls_listed c.args.catalog.now) c.in-Err.field-0 slots c.in-Err.ensures.value

pub returns : goal.returns
returns c =
    let bits = c.in_ok-clone.field-0 in
    let offsets = c.in_ok-zeros.zeros in
    let n = 4 * (c.len-len.result + 1) in
    let are : offsets ≡ zeros n = c.in_ok-zeros.ensures.ok ∙ c.in_ok-vec.ensures.items_if_clones_equal (λ y same. same) in
    let slots = null_slots c.args.catalog.now bits offsets c.new.result n c.len-len.result are c.in_ok-clone.ensures.cases c.new.ensures refl c.len-len.ensures.count in
    rw (c.new-in-Ok.ensures, c.texts.ensures) (read_same (Some bits) offsets c.new.result c.len-len.result (nulls_listed c.args.catalog.now) c.in-Ok.nulls slots c.in-Ok.ensures.value)
