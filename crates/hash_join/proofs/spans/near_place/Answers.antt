use Rattle.std.proofs.Common.{◌≡◌, ◌+◌, ◌-◌, ◌%◌, ◌^◌, ℕ, min, ap, ap₂, ◌∙◌}
use Rattle.std.specs.Int.{w64, cast_unsigned}
use Rattle.std.proofs.lemmas.Int.{to_z-of_z}
use Rattle.hash_join.proofs.Sieving.{near_index}
use Rattle.hash_join.proofs.spans.near_place.Goals as goal

pub returns-clause-place : goal.returns-clause-place
returns-clause-place c =
    let number : c.cast_unsigned.result ≡ cast_unsigned w64 c.args.number = c.cast_unsigned.ensures ∙ ap (cast_unsigned w64) (to_z-of_z w64 c.args.number c.ranges.number) in
    let least : c.cast_unsigned-2.result ≡ cast_unsigned w64 c.args.least = c.cast_unsigned-2.ensures ∙ ap (cast_unsigned w64) (to_z-of_z w64 c.args.least c.ranges.least) in
    c.min.ensures ∙ ap₂ (λ (one : ℕ) (other : ℕ). min ((one + (2 ^ 64 - other)) % 2 ^ 64) c.args.count) number least
    ∙ near_index c.args.number c.args.least c.args.count c.ranges.number c.ranges.least c.requires
