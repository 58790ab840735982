use Rattle.std.proofs.Common.{ℕ, ◌+◌, List, map, ap, ◌∙◌, arith}
use Rattle.std.specs.List.{range_with_len}
use Rattle.scan_base.specs.declared.truth.Truth.{Truth}
use Rattle.arrays.specs.Validity.{is_valid}
use Rattle.kernels.specs.Codes.{code_at, is_among}
use Rattle.kernels.specs.Entries.{unless_known, AreTrueAt}
use Rattle.kernels.specs.EntryTruths.{entry_truth}
use Rattle.kernels.specs.Ranges.{where_known}
use Rattle.kernels.proofs.EntryRows.{slot_among, map_both}
use Rattle.kernels.proofs.WordRows.{same_range}
use Rattle.kernels.proofs.entries.ByEntry.mask.Goals as goal

pub returns-in_ok-mask-in-Some : goal.returns-in_ok-mask-in-Some
returns-in_ok-mask-in-Some c =
    let s = c.args.self.now in
    let first = c.args.first in
    let len = c.args.len in
    let codes : List ℕ = c.in-Some.codes.items in
    let f : ℕ → Truth = λ place. where_known (is_valid s.indices.validity.now place) (is_among c.as_slice.result.now (code_at s.indices.integer s.indices.values.now place)) in
    let are : AreTrueAt s.truths.now codes = rw c.in-Some.is at c.in_ok-codes.ensures in
    c.where_null.ensures
    ∙ ap (map (unless_known s.of_null)) c.in_ok-mask-in-Some.ensures
    ∙ map_both (unless_known s.of_null) f (range_with_len first len)
    ∙ same_range (λ (place : ℕ). unless_known s.of_null (f place)) (entry_truth s) first first len (λ i lt.
    let place = first + i in
    let code = code_at s.indices.integer s.indices.values.now place in
    ap (λ (l : List ℕ). unless_known s.of_null (where_known (is_valid s.indices.validity.now place) (is_among l code))) c.as_slice.ensures.value
    ∙ slot_among s.truths.now s.of_null codes (is_valid s.indices.validity.now place) code are
    (λ valid. c.requires.stand place (omega (arith, lt, c.requires.within)) valid))
