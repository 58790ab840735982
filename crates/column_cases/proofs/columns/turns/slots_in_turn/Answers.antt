use Rattle.std.proofs.Common.{All, subst, sym}
use Rattle.std.proofs.lemmas.List.Elements.{All-push}
use Rattle.array_select.specs.OfSlots.{IsSlotOf}
use Rattle.column_cases.proofs.columns.turns.slots_in_turn.Goals as goal

pub loop-turn-preserved : goal.loop-turn-preserved
loop-turn-preserved c data_type whole kept =
    let first = All-push (IsSlotOf data_type) _ _ (c.loop-turn.invariant data_type whole kept) (c.in_ok-place.ensures, whole) in
    let second = All-push (IsSlotOf data_type) _ _ (subst (All (IsSlotOf data_type)) (sym c.in_ok-push.ensures.items) first) (c.in_ok-place-2.ensures, kept) in
    subst (All (IsSlotOf data_type)) (sym c.in_ok-push-2.ensures.items) second
