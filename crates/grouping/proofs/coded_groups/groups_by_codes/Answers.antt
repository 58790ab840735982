use Rattle.std.proofs.Common.{◌≡◌, ◌<◌, ℕ, List, length, map, get_or, ap, ◌∙◌, refl, arith}
use Rattle.std.proofs.lemmas.Option.{IfSome_then}
use Rattle.grouping.specs.FoundKeys.{place_in}
use Rattle.first_rows.specs.RowKeys.{key_of}
use Rattle.grouping.proofs.Finding.{step}
use Rattle.grouping.proofs.coded_groups.groups_by_codes.Goals as goal

pub coded_group-requires-clause-told : goal.coded_group-requires-clause-told
coded_group-requires-clause-told c =
    let placed = c.loop-place.invariant.finding.placed in
    let chosen = c.args.chosen.now in
    let found = map key_of c.loop-place.firsts.keys in
    let earlier : ℕ = c.earlier-earlier.result in
    IfSome_then c.told-known.result c.told-known.ensures (λ group is.
    let low : earlier < length c.loop-place.groups.items = omega (arith, is.0, ap length c.as_slice.ensures.value) in
    let same : group ≡ get_or c.loop-place.groups.items earlier 0 = is.1 ∙ ap (λ (groups : List ℕ). get_or groups earlier 0) c.as_slice.ensures.value in
    let before : earlier < c.loop-place.place = omega (arith, low, placed.long) in (
      same ∙ placed.each earlier before ∙ ap (place_in found) c.earlier-earlier.ensures.alike,
      omega (arith, same, placed.there earlier before),
    ))

pub loop-place-preserved : goal.loop-place-preserved
loop-place-preserved c =
    let done = c.in_ok-coded_group.ensures in
    record {
      finding = rw (c.in_ok-push.ensures.items, done.place, done.inserted)
          (step _ _ _ _ _ _ c.loop-place.invariant.finding (omega arith) refl refl refl refl);
      seen = done.seen;
    }
