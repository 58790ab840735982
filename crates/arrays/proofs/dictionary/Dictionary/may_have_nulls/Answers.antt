use Rattle.std.proofs.Common.{refl, arith}
use Rattle.std.proofs.lemmas.List.Folds.{list_any-append}
use Rattle.scan_base.specs.Value.{is_null}
use Rattle.arrays.specs.Texts.{texts_slot, texts_values}
use Rattle.arrays.proofs.NoNulls.{none_listed}
use Rattle.arrays.proofs.dictionary.Dictionary.may_have_nulls.Goals as goal

pub returns-else-may_have_nulls : goal.returns-else-may_have_nulls
returns-else-may_have_nulls c = λ no.
    let first = c.self.inside.first in
    let none = none_listed (texts_slot first) 0 first.len (λ place from low. c.may_have_nulls.ensures c.if-may_have_nulls.false place (omega arith)) in
    rw (← c.self.view_is, list_any-append is_null (texts_values first) c.self.inside.later, none, c.may_have_nulls-else-may_have_nulls.ensures no) refl
