use Rattle.std.proofs.Common.{sym, ap, ◌∙◌}
use Rattle.scan_base.specs.declared.comparison.Comparison.{Comparison}
use Rattle.scan_base.specs.declared.comparison.Comparison.TheVariants.{Equal, NotEqual, Less, LessOrEqual, Greater, GreaterOrEqual}
use Rattle.scan_base.specs.Comparison.{compared}
use Rattle.kernels.proofs.Sides.{sides, equal_sides, not_equal_sides, less_sides, at_most_sides, greater_sides, at_least_sides}
use Rattle.kernels.proofs.compare.exchanged.Goals as goal

pub returns-in-Equal : goal.returns-in-Equal
returns-in-Equal c = λ one other. sides Equal Equal equal_sides one other ∙ sym (ap (λ (d : Comparison). compared d other one) c.in-Equal.is)

pub returns-in-NotEqual : goal.returns-in-NotEqual
returns-in-NotEqual c = λ one other. sides NotEqual NotEqual not_equal_sides one other ∙ sym (ap (λ (d : Comparison). compared d other one) c.in-NotEqual.is)

pub returns-in-Less : goal.returns-in-Less
returns-in-Less c = λ one other. sides Less Greater less_sides one other ∙ sym (ap (λ (d : Comparison). compared d other one) c.in-Less.is)

pub returns-in-LessOrEqual : goal.returns-in-LessOrEqual
returns-in-LessOrEqual c = λ one other. sides LessOrEqual GreaterOrEqual at_most_sides one other ∙ sym (ap (λ (d : Comparison). compared d other one) c.in-LessOrEqual.is)

pub returns-in-Greater : goal.returns-in-Greater
returns-in-Greater c = λ one other. sides Greater Less greater_sides one other ∙ sym (ap (λ (d : Comparison). compared d other one) c.in-Greater.is)

pub returns-in-GreaterOrEqual : goal.returns-in-GreaterOrEqual
returns-in-GreaterOrEqual c = λ one other. sides GreaterOrEqual LessOrEqual at_least_sides one other ∙ sym (ap (λ (d : Comparison). compared d other one) c.in-GreaterOrEqual.is)
