use Rattle.std.proofs.Common.{◌≡◌, ◌≤◌, ◌+◌, ℕ, Bool, false, List, Option, length, get_or, if◌then◌else◌, subst, sym, ap, ◌∙◌, arith}
use Rattle.scan_base.specs.declared.value.Value.TheVariants.{Null, Bool as Flag}
use Rattle.arrays.specs.declared.layout.Layout.{Layout}
use Rattle.arrays.specs.declared.layout.Layout.TheVariants.{Bools}
use Rattle.arrays.specs.Layout.{layout_count, layout_slot, IsLayout}
use Rattle.arrays.specs.Validity.{is_valid, HasBits, IsLong}
use Rattle.kernels.specs.Words.{bit}
use Rattle.arrays.proofs.ValidWords.{bit_of_taken}
use Rattle.kernels.proofs.flag_pairs.flag_word.Goals as goal

pub valid_word-requires : goal.valid_word-requires
valid_word-requires c =
    let cells = c.in-Bools.cells in
    let count : ℕ = length cells.values in
    let from : ℕ = c.first.result + c.args.from in
    let long : IsLong cells.validity count = subst (λ (l : Layout). IsLayout l) (sym c.in-Bools.ensures.value) c.in-Bools.ensures.stands in
    let counts = ap layout_count c.in-Bools.ensures.value in
    subst (λ (v : Option (List Bool)). HasBits v (from + 64)) (sym c.validity.ensures)
    (count, omega (arith, counts, c.len-len.ensures.stands.within, c.len-len.ensures.count, c.first.ensures, c.requires), long)

pub returns-in-Bools : goal.returns-in-Bools
returns-in-Bools c = λ row lt.
    let column = c.args.column.now in
    let from = c.args.from in
    let cells = c.in-Bools.cells in
    let first : ℕ = c.first.result + from in
    let place : ℕ = first + row in
    let at : column.first + (from + row) ≡ place = omega (arith, c.first.ensures) in
    sym (ap (λ (l : Layout). layout_slot l (column.first + (from + row))) c.in-Bools.ensures.value)
    ∙ ap (layout_slot (Bools cells)) at
    ∙ ap (λ (b : Bool). if is_valid cells.validity place then Flag b else Null)
    (sym (ap (λ (w : ℕ). bit w row) c.word.ensures ∙ bit_of_taken c.values.result.now first row lt ∙ ap (λ (l : List Bool). get_or l place false) c.values.ensures))
    ∙ ap (λ (b : Bool). if b then Flag (bit c.word.result row) else Null)
    (sym (c.valid_word.ensures row lt ∙ ap (λ (v : Option (List Bool)). is_valid v place) c.validity.ensures))
