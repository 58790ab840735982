use Rattle.std.proofs.Common.{◌≡◌, ◌∙◌, sym, ap, subst, true, arith}
use Rattle.arrays.specs.Texts.{TextsAt, text_stands}
use Rattle.arrays.specs.inside.TextCuts.{IsTextCut}
use Rattle.arrays.proofs.EachSlot.{slots_more, all_pass}
use Rattle.arrays.proofs.TextCuts.{cut_stands}
use Rattle.arrays.proofs.text_parts.TextParts.slots_stand.Goals as goal

pub returns-then-are_cut_from_text : goal.returns-then-are_cut_from_text
returns-then-are_cut_from_text c =
    let cells = c.args.self.now in
    let count = ap (λ (cells : TextsAt). cells.len) c.self.view_is in
    sym (all_pass (text_stands cells) 0 cells.len (λ place first low. cut_stands cells place
    (subst (λ (cells : TextsAt). IsTextCut cells.offsets cells.bytes place) c.self.view_is (c.are_cut_from_text.ensures c.if-are_cut_from_text.true place (omega (arith, count))))))

pub loop-place-preserved : goal.loop-place-preserved
loop-place-preserved c =
    let stands : text_stands c.args.self.now c.loop-place.place ≡ true = sym c.slot_stands.ensures ∙ c.if-not-slot_stands.false in
    let count = ap (λ (cells : TextsAt). cells.len) c.self.view_is in
    sym (slots_more (text_stands c.args.self.now) c.loop-place.place c.args.self.now.len (omega (arith, count)) stands) ∙ c.loop-place.invariant
