use Rattle.std.proofs.Common.{◌≡◌, map, take}
use Rattle.std.specs.List.{filter}
use Rattle.scan_base.specs.Predicate.{names_only}
use Rattle.scan_base.specs.View.{pred_of}
use Rattle.rewrite.specs.Conjuncts.{is_between}
use Rattle.batch_skipping.proofs.place_filter.PlaceFilter.new.Given as goal

-- those of the conjuncts so far
abbrev pub invariant-loop-conjunct : goal.invariant-loop-conjunct
invariant-loop-conjunct l = record {
  place : l.place ≡ l.fn.place;
  parts : map (λ part. pred_of part.now) l.parts.items
      ≡ filter (names_only (is_between l.fn.place.first l.fn.place.width)) (map (λ part. pred_of part.now) (take l.conjunct-index l.conjuncts));
}
