use Rattle.std.proofs.Common.{ℤ, ap, sym, ◌∙◌, refl}
use Rattle.std.specs.Int.{w128}
use Rattle.std.specs.Ordering.{int_cmp}
use Rattle.std.proofs.lemmas.Int.{to_z-of_z}
use Rattle.scan_base.specs.declared.truth.Truth.{Truth}
use Rattle.scan_base.specs.declared.value.Value.{Value}
use Rattle.scan_base.specs.declared.value.Value.TheVariants.{Int}
use Rattle.scan_base.specs.Truth.{truth_from}
use Rattle.scan_base.specs.Comparison.{compared, satisfies}
use Rattle.kernels.proofs.numbers.numbers_compared.Goals as goal

pub returns : goal.returns
returns c =
    let test : Value → Truth = λ value. compared c.args.comparison value (Int c.args.other) in
    c.numbers_in.ensures test (record {
      numbers = λ number fits. ap truth_from (sym (c.of-range.ensures number fits
          ∙ ap (λ (z : ℤ). satisfies c.args.comparison (int_cmp number z)) (to_z-of_z w128 c.args.other c.ranges.other)));
      null = refl;
    })
