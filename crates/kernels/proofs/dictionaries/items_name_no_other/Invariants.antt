use Rattle.std.proofs.Common.{◌≡◌, ◌==◌, ℕ, drop}
use Rattle.std.specs.List.{list_all}
use Rattle.scan_base.specs.Predicate.{operand_names}
use Rattle.kernels.proofs.dictionaries.items_name_no_other.Given as goal

abbrev pub invariant-loop-item : goal.invariant-loop-item
invariant-loop-item l =
    list_all (operand_names (λ (column : ℕ). column == l.number)) (drop l.item-index l.items) ≡ list_all (operand_names (λ (column : ℕ). column == l.number)) l.items
