use Rattle.std.proofs.Common.{◌≡◌, ◌+◌, ℕ, true, get_or, sym, ap, ◌∙◌, arith}
use Rattle.scan_base.specs.declared.value.Value.TheVariants.{Null}
use Rattle.arrays.specs.declared.layout.Layout.{Layout}
use Rattle.arrays.specs.declared.layout.Layout.TheVariants.{Indices}
use Rattle.arrays.specs.Layout.{layout_slot}
use Rattle.arrays.specs.Validity.{is_valid}
use Rattle.kernels.specs.TextPairs.{indices_into}
use Rattle.kernels.proofs.EntryRows.{slot_by_code}
use Rattle.kernels.proofs.text_columns.CodedTexts.code.Goals as goal

pub returns-clause-value : goal.returns-clause-value
returns-clause-value c =
    let s = c.args.self.now in
    let row = c.args.row in
    let cells = indices_into s.dictionary.now s.indices in
    let valid : is_valid s.indices.validity.now (s.first + row) ≡ true = sym c.is_valid.ensures ∙ c.if-not-is_valid.false in
    ap (λ (l : Layout). layout_slot l (s.column.now.first + row)) s.layout
    ∙ ap (λ (n : ℕ). layout_slot (Indices cells) (n + row)) (sym s.begins)
    ∙ (slot_by_code cells (s.first + row) (s.stand (s.first + row) (omega (arith, s.within, c.requires))) valid).1
    ∙ ap (λ (n : ℕ). get_or s.dictionary.now n Null) (sym c.code.ensures)

pub returns-clause-within : goal.returns-clause-within
returns-clause-within c =
    let s = c.args.self.now in
    let place : ℕ = s.first + c.args.row in
    let valid : is_valid s.indices.validity.now place ≡ true = sym c.is_valid.ensures ∙ c.if-not-is_valid.false in
    let low = (slot_by_code (indices_into s.dictionary.now s.indices) place (s.stand place (omega (arith, s.within, c.requires))) valid).0 in
    omega (arith, low, c.code.ensures)
