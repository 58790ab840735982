use Rattle.std.proofs.Common.{◌≡◌, ◌≤◌, ◌+◌, ◌-◌, ℕ, Some}
use Rattle.scan_base.specs.declared.value.Value.TheVariants.{Text}
use Rattle.arrays.specs.Texts.{texts_slot}
use Rattle.batch_stats.specs.inside.Slots.{ends_with}
use Rattle.batch_stats.specs.inside.TextSlots.{AreEndsAt, AreKeyed, KeepsEnds}
use Rattle.batch_stats.proofs.texts.TextRange.with_slots.Given as goal

abbrev pub invariant-loop-place : goal.invariant-loop-place
invariant-loop-place l = record {
  keys : AreKeyed l.range;
  kept : KeepsEnds (Some (Text l.range.least.text.now, Text l.range.greatest.text.now)) l.kept.low l.kept.high;
  count : l.kept.count ≡ l.kept.high + 1 - l.kept.low;
  low : l.from ≤ l.place;
  ends : ends_with (Some (Text l.range.least.text.now, Text l.range.greatest.text.now)) (texts_slot l.cells) l.place l.to
      ≡ ends_with (Some (Text l.fn.self.least.text.now, Text l.fn.self.greatest.text.now)) (texts_slot l.cells) l.from l.to;
  places : (first : ℕ) → first ≤ l.from → AreEndsAt (texts_slot l.cells) first l.to l.fn.self → AreEndsAt (texts_slot l.cells) first l.to l.range;
}
