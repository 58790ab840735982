use Rattle.std.proofs.Common.{◌≡◌, ◌≤◌, ◌<◌, ℕ, true}
use Rattle.arrays.specs.Texts.{text_at, texts_slot}
use Rattle.arrays.specs.WrittenSlots.{text_bytes}
use Rattle.arrays.proofs.texts.TextsRef.nulls_are_empty.Given as goal

abbrev pub invariant-loop-place : goal.invariant-loop-place
invariant-loop-place l = l.empty ≡ true → (place : ℕ) → l.from ≤ place → place < l.place →
    text_bytes (texts_slot l.fn.self place) ≡ text_at l.fn.self place
