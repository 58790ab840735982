use Rattle.std.proofs.Common.{◌≡◌, ℕ, ◌+◌, Bool, false, List, Option, get_or, Some, refl, sym, ap, ◌∙◌}
use Rattle.scan_base.specs.declared.value.Value.{Value}
use Rattle.scan_base.specs.declared.value.Value.TheVariants.{Bool as Flag}
use Rattle.arrays.specs.Column.{ColumnAt, values_of}
use Rattle.arrays.specs.Validity.{where_valid}
use Rattle.arrays.specs.declared.layout.Layout.TheVariants.{Bools}
use Rattle.batch_stats.specs.Stats.{ends_of}
use Rattle.batch_stats.specs.inside.Slots.{ends_with}
use Rattle.batch_stats.proofs.Passes.{from_first, nulls_are}
use Rattle.batch_stats.proofs.flags.flags_stats.Goals as goal

pub returns-in_default : goal.returns-in_default
returns-in_default c =
    let cells = c.args.cells.now in
    let column : ColumnAt = record { layout = Bools cells; first = c.args.first; len = c.args.len } in
    let value : ℕ → Value = λ p. Flag (get_or cells.values p false) in
    nulls_are column c.validity.result.now value (λ place. ap (λ (v : Option (List Bool)). where_valid v value place) (sym c.validity.ensures)) c.in_default.ensures.none

pub returns : goal.returns
returns c =
    let cells = c.args.cells.now in
    let column : ColumnAt = record { layout = Bools cells; first = c.args.first; len = c.args.len } in
    let value : ℕ → Value = λ p. Flag (get_or cells.values p false) in
    let slot : ℕ → Value = where_valid cells.validity value in
    let start = c.in-Some.start in
    let to : ℕ = c.args.first + c.args.len in
    let got : c.get.result ≡ get_or cells.values start false = c.get.ensures ∙ ap (λ (v : List Bool). get_or v start false) c.values-2.ensures in
    let rest : ends_with (Some (Flag c.get.result, Flag c.get.result)) slot (start + 1) to ≡ ends_of (values_of column) =
    ap (λ (g : Bool). ends_with (Some (Flag g, Flag g)) slot (start + 1) to) got
    ∙ from_first column cells.validity c.validity.result.now value start c.validity.ensures (λ place. refl) c.in-Some.ensures.some in
    record { ends = c.with_flags.ensures.ends column ∙ rest; slots = c.with_flags.ensures.slots column }
