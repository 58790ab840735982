-- Slots of texts by their places in a column.
use Rattle.std.proofs.Common.{◌≡◌, ◌≤◌, ◌<◌, ℕ, ◌+◌, ◌-◌, List, sym, ap, subst, ◌∙◌, arith}
use Rattle.std.specs.Prelude.{slice_range}
use Rattle.scan_base.specs.declared.value.Value.{Value}
use Rattle.scan_base.specs.declared.value.Value.TheVariants.{Text}
use Rattle.arrays.specs.Number.{AreBytes, element_at}
use Rattle.arrays.specs.Texts.{text_at, TextsAt}
use Rattle.batch_stats.specs.declared.texts.SlotText.{SlotText}
use Rattle.batch_stats.specs.inside.TextKeys.{key_of}
use Rattle.batch_stats.specs.inside.TextSlots.{IsKeyed, IsTextAt}
use Rattle.batch_stats.proofs.TextKeys.{cut_bytes}

pub text_held : (slot : ℕ → Value) (first to : ℕ) (text : SlotText) → IsTextAt slot first to text → slot (first + (text.place - first)) ≡ Text text.text.now
text_held slot first to text is =
    let low : first ≤ text.place = is.low in
    let e : first + (text.place - first) ≡ text.place = omega (arith, low) in
    ap slot e ∙ is.is

pub place_below : (slot : ℕ → Value) (first len : ℕ) (text : SlotText) → IsTextAt slot first (first + len) text → text.place - first < len
place_below slot first len text is =
    let low : first ≤ text.place = is.low in
    let high : text.place < first + len = is.high in
    omega (arith, low, high)

module _ (cells : TextsAt) (place key : ℕ) (offsets bytes : List ℕ) (same_offsets : offsets ≡ cells.offsets) (same_bytes : bytes ≡ cells.bytes) where
  -- the key of what the offsets of a slot cut is that of its text
  pub key_there : key ≡ key_of (slice_range bytes (element_at 4 offsets place) (element_at 4 offsets (place + 1))) → key ≡ key_of (text_at cells place)
  key_there is =
      is
      ∙ ap (λ (bs : List ℕ). key_of (slice_range bs (element_at 4 offsets place) (element_at 4 offsets (place + 1)))) same_bytes
      ∙ ap (λ (os : List ℕ). key_of (slice_range cells.bytes (element_at 4 os place) (element_at 4 os (place + 1)))) same_offsets

  pub bytes_there : AreBytes bytes → AreBytes (text_at cells place)
  bytes_there octets = cut_bytes (element_at 4 cells.offsets place) (element_at 4 cells.offsets (place + 1) - element_at 4 cells.offsets place) cells.bytes (subst AreBytes same_bytes octets)

  pub keyed_there : (text : SlotText) → text.key ≡ key → text.text.now ≡ text_at cells place → AreBytes bytes →
      key ≡ key_of (slice_range bytes (element_at 4 offsets place) (element_at 4 offsets (place + 1))) → IsKeyed text
  keyed_there text same_key same_text octets is = record {
    key = same_key ∙ key_there is ∙ ap key_of (sym same_text);
    bytes = subst AreBytes (sym same_text) (bytes_there octets);
  }
