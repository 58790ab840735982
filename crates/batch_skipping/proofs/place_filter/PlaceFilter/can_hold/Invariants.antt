use Rattle.std.proofs.Common.{◌≡◌, drop, map}
use Rattle.scan_base.specs.View.{pred_of}
use Rattle.batch_skipping.specs.OpenedBatches.{given_columns}
use Rattle.batch_skipping.specs.inside.JudgedBatches.{all_can, batch_columns}
use Rattle.batch_skipping.proofs.place_filter.PlaceFilter.can_hold.Given as goal

-- the conjuncts before this one can be true
abbrev pub invariant-loop-part : goal.invariant-loop-part
invariant-loop-part l =
    all_can (map (λ part. pred_of part.now) (drop l.part-index l.part-items)) l.self.place.first (given_columns l.self.place.columns.now (batch_columns l.table l.index))
    ≡ all_can (map (λ part. pred_of part.now) l.part-items) l.self.place.first (given_columns l.self.place.columns.now (batch_columns l.table l.index))
