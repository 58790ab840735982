use Rattle.std.proofs.Common.{◌≡◌, ℕ, false, IfOk, List, length, [], map, sym, ap, ◌∙◌, subst, arith}
use Rattle.std.proofs.lemmas.List.{length-map}
use Rattle.std.proofs.lemmas.List.Elements.{All-map, All-weaker}
use Rattle.scan_base.specs.declared.value.Value.{Value}
use Rattle.array_select.specs.OfSlots.{slot_value}
use Rattle.arrays.specs.WrittenSlots.{text_bytes}
use Rattle.typed_plan.specs.TypedPlans.{type_at}
use Rattle.grouping.specs.declared.key.Place.{Place}
use Rattle.grouping.specs.Answers.{IsThere}
use Rattle.array_select.specs.Fitting.{has_texts, Fits}
use Rattle.array_select.specs.Room.{share_among}
use Rattle.grouping.specs.inside.Answering.{first_cell}
use Rattle.grouping.proofs.Answering.{no_text_cell, type_there}
use Rattle.array_select.proofs.Light.{plain_fit}
use Rattle.grouping.proofs.batches.GroupRows.how_many_firsts_fit.Goals as goal

pub returns-then-not-has_texts : goal.returns-then-not-has_texts
returns-then-not-has_texts c =
    let types = c.args.self.now.types.now in
    let batches = c.args.self.now.batches.now in
    let firsts = c.args.firsts.now in
    let cell = first_cell batches c.args.column in
    let plain : has_texts (type_at types c.args.column) ≡ false =
    sym (ap has_texts (type_there types c.args.column _ c.requires.there)) ∙ sym c.has_texts.ensures ∙ c.if-not-has_texts.true in
    let share = share_among (length c.args.self.now.items.now) in
    subst (Fits share (map cell firsts)) (length-map firsts cell)
    (plain_fit share (map cell firsts) (omega (arith, c.requires.some, length-map firsts cell))
    (All-map (λ (value : Value). text_bytes value ≡ []) cell firsts
    (All-weaker (IsThere batches) (λ (first : Place). text_bytes (cell first) ≡ [])
    (no_text_cell types batches c.args.column c.requires.can.typed c.requires.there plain) firsts c.requires.firsts)))

pub returns : goal.returns
returns c =
    subst (λ (share : ℕ). IfOk c.fitting.result (Fits share (map (first_cell c.args.self.now.batches.now c.args.column) c.args.firsts.now))) c.share_among.ensures.share
    (subst (λ (values : List Value). IfOk c.fitting.result (Fits c.share_among.result values)) (ap (map slot_value) c.as_slice.ensures.value ∙ c.in_ok-slots.ensures.values)
    c.fitting.ensures.fits)
