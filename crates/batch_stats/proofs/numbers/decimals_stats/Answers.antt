use Rattle.std.proofs.Common.{◌≡◌, ℕ, ℤ, List, ap, ◌∙◌}
use Rattle.std.specs.Int.{w128, cast_signed}
use Rattle.arrays.specs.Number.{element_at, decimal_at}
use Rattle.arrays.specs.inside.SignedNumbers.{signed128}
use Rattle.batch_stats.proofs.Numerals.{decimals_are}
use Rattle.batch_stats.proofs.numbers.decimals_stats.Goals as goal

pub returns : goal.returns
returns c =
    let cells = c.args.cells.now in
    let of : List ℕ → ℕ → ℤ = λ v place. cast_signed w128 (element_at 16 v place) in
    let same : (place : ℕ) → of c.values.result.now place ≡ decimal_at cells.values place = λ place.
    ap (λ v. of v place) c.values.ensures ∙ signed128 (element_at 16 cells.values place) in
    decimals_are c.args.first c.args.len c.numbers_stats.result c.validity.result.now (of c.values.result.now) c.numbers_stats.ensures.ends c.numbers_stats.ensures.slots cells c.validity.ensures same
