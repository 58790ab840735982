use Rattle.std.proofs.Common.{ℕ, Option, Result, Ok, map, List, sym, ap, ◌∙◌}
use Rattle.std.proofs.lemmas.Result.{err_from_is_err_and}
use Rattle.arrow_types.specs.declared.data_type.DataType.{DataType}
use Rattle.scan_base.specs.declared.fault.Fault.{Fault}
use Rattle.scan_base.specs.declared.predicate.Operand.{Operand}
use Rattle.scan_base.specs.Predicate.{membership}
use Rattle.sql_query.specs.declared.query.Term.{Term}
use Rattle.typed_plan.specs.declared.class.Class.{Class}
use Rattle.typed_plan.specs.NumberedPredicates.{operand_bind}
use Rattle.typed_plan.specs.Scope.{term_operand}
use Rattle.typed_plan.specs.SettledLiterals.{first_type, operand_by, settled_item}
use Rattle.typed_plan.specs.Faults.{◌then◌, fault_in, operand_class, items_fault}
use Rattle.query_binder.specs.NameClasses.{class_of_term}
use Rattle.query_binder.proofs.predicate.number_in.Goals as goal

pub returns-in_err-items : goal.returns-in_err-items
returns-in_err-items c =
    let scope = c.args.scope.now in
    let operand = c.args.operand.now in
    let items = c.args.items.now in
    let f = class_of_term scope in
    let kind = first_type scope items in
    let left = c.settled_or-left.ensures ∙ c.operand_by-settled.ensures ∙ ap (λ (t : Option DataType). operand_by t operand) c.first_type-beside.ensures in
    let known = (rw c.in_ok-class.was at c.operand_class.ensures) ∙ ap (λ (o : Operand Term). operand_class f o) left in
    let p = err_from_is_err_and c.from_residual-in_err-items.result c.from_residual-in_err-items.ensures.1 in
    rw (p.1, p.2) (λ other.
    ap (λ (class : Result Class Fault). fault_in class then items_fault f class (map (settled_item scope kind operand) items)) (sym known)
    ∙ ap (λ (t : Option DataType). items_fault f (Ok c.in_ok-class.class) (map (settled_item scope t operand) items)) (sym c.first_type-beside.ensures)
    ∙ c.in_err-items.ensures other)

pub returns : goal.returns
returns c =
    let scope = c.args.scope.now in
    let operand = c.args.operand.now in
    let items = c.args.items.now in
    let f = class_of_term scope in
    let g = term_operand scope in
    let kind = first_type scope items in
    let left = c.settled_or-left.ensures ∙ c.operand_by-settled.ensures ∙ ap (λ (t : Option DataType). operand_by t operand) c.first_type-beside.ensures in
    let known = (rw c.in_ok-class.was at c.operand_class.ensures) ∙ ap (λ (o : Operand Term). operand_class f o) left in (
      ap (λ (class : Result Class Fault). fault_in class then items_fault f class (map (settled_item scope kind operand) items)) (sym known)
          ∙ ap (λ (t : Option DataType). items_fault f (Ok c.in_ok-class.class) (map (settled_item scope t operand) items)) (sym c.first_type-beside.ensures)
          ∙ c.in_ok-items.ensures.0,
      ap (λ (o : Operand ℕ). membership c.args.negated o c.in_ok-items.items) (c.in_ok-number_operand.ensures.1 ∙ ap (λ (o : Operand Term). operand_bind g o) left)
          ∙ ap (λ (bound : List (Operand ℕ)). membership c.args.negated (operand_bind g (operand_by kind operand)) bound)
          (c.in_ok-items.ensures.1 ∙ ap (λ (t : Option DataType). map (operand_bind g) (map (settled_item scope t operand) items)) c.first_type-beside.ensures),
    )
