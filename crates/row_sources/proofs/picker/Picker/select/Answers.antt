use Rattle.std.proofs.Common.{◌≡◌, ◌-◌, ℕ, List, All, OnOk, length, map, nat_lt, ap, sym, subst}
use Rattle.std.specs.Prelude.{IsTrue}
use Rattle.std.specs.List.{filter, range_with_len}
use Rattle.arrays.specs.Column.{ColumnAt}
use Rattle.scan_base.specs.declared.predicate.Predicate.{Predicate}
use Rattle.scan_base.specs.Predicate.{names_only}
use Rattle.scan_base.specs.View.{pred_of}
use Rattle.kernels.specs.KeptRows.{all_keep}
use Rattle.row_sources.proofs.Passing.{all_named}
use Rattle.row_sources.proofs.picker.Picker.select.Goals as goal

pub select-requires-clause-over : goal.select-requires-clause-over
select-requires-clause-over c =
    let filters = c.args.self.now.filters.items in
    let wide = ap length (sym c.as_slice.ensures.value) in
    subst (λ (some : List (Predicate ℕ)). All (λ (p : Predicate ℕ). IsTrue (names_only (λ column. nat_lt column (length c.as_slice.result.now)) (pred_of p))) some)
    (sym c.as_slice-2.ensures.value)
    (all_named filters (length c.args.self.now.read.items) (length c.as_slice.result.now) wide c.requires.pick.named)

pub returns : goal.returns
returns c =
    let picker = c.args.self.now in
    let part = c.args.part.now in
    let rows : List ℕ = range_with_len part.from (part.to - part.from) in
    subst (λ (filters : List (Predicate ℕ)). OnOk c.select.result (c.select.new.selection ≡ filter (all_keep part.batch.now.columns picker.read.items (map pred_of filters)) rows))
    c.as_slice-2.ensures.value
    (subst (λ (read : List ℕ). OnOk c.select.result (c.select.new.selection ≡ filter (all_keep part.batch.now.columns read (map pred_of c.as_slice-2.result.now)) rows))
    c.as_slice.ensures.value
    (subst (λ (columns : List ColumnAt). OnOk c.select.result (c.select.new.selection ≡ filter (all_keep columns c.as_slice.result.now (map pred_of c.as_slice-2.result.now)) rows))
    c.columns.ensures.columns
    c.select.ensures))
