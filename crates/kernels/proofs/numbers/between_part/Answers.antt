use Rattle.std.proofs.Common.{ℤ, ap, sym, ◌∙◌, refl}
use Rattle.std.specs.Int.{w128}
use Rattle.std.proofs.lemmas.Int.{to_z-of_z}
use mir.Val.{to_z, of_z}
use Rattle.scan_base.specs.declared.truth.Truth.{Truth}
use Rattle.scan_base.specs.declared.value.Value.{Value}
use Rattle.scan_base.specs.declared.value.Value.TheVariants.{Int}
use Rattle.scan_base.specs.Predicate.{within}
use Rattle.scan_base.specs.Truth.{truth_from}
use Rattle.kernels.specs.Ranges.{is_within}
use Rattle.kernels.proofs.Ranged.{between_said}
use Rattle.kernels.proofs.numbers.between_part.Goals as goal

pub returns : goal.returns
returns c =
    let low = c.args.low in
    let high = c.args.high in
    let test : Value → Truth = λ value. within value (Int low) (Int high) in
    c.numbers_in.ensures test (record {
      numbers = λ number fits. between_said low high number ∙ ap truth_from (sym (c.between-range.ensures number
          ∙ ap (λ (z : ℤ). is_within z (to_z w128 (of_z w128 high)) number) (to_z-of_z w128 low c.ranges.low)
          ∙ ap (λ (z : ℤ). is_within low z number) (to_z-of_z w128 high c.ranges.high)));
      null = refl;
    })
