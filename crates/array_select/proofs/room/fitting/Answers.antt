use Rattle.std.proofs.Common.{ℕ, map, ◌∙◌, sym}
use Rattle.std.proofs.lemmas.Bool.{leb-true}
use Rattle.std.proofs.lemmas.Result.{IfOk-weaker}
use Rattle.array_select.specs.OfSlots.{slot_value}
use Rattle.array_select.specs.Fitting.{Fits}
use Rattle.array_select.proofs.Light.{slots_fit}
use Rattle.array_select.proofs.room.fitting.Goals as goal

pub returns-clause-fits : goal.returns-clause-fits
returns-clause-fits c =
    slots_fit c.args.share c.args.slots.now c.loop-share.count c.requires.few c.loop-share.invariant.0 c.loop-share.invariant.1
    (leb-true _ _ (sym c.texts_fit.ensures ∙ c.loop-share-test.false))

pub returns-then-count-eq1-clause-fits : goal.returns-then-count-eq1-clause-fits
returns-then-count-eq1-clause-fits c =
    let values = map slot_value c.args.slots.now in
    IfOk-weaker c.alone.result (λ (count : ℕ). (share : ℕ) → Fits share values count) (Fits c.args.share values) (λ count all. all c.args.share) c.alone.ensures.fits
