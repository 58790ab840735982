-- Texts and the slots that have them.
use Rattle.std.specs.Prelude.{◌≡◌, ◌≤◌, ◌<◌, ℕ, List, Option}
use Rattle.scan_base.specs.declared.value.Value.{Value}
use Rattle.scan_base.specs.declared.value.Value.TheVariants.{Text}
use Rattle.arrays.specs.Number.{AreBytes}
use Rattle.batch_stats.specs.Stats.{with_value}
use Rattle.batch_stats.specs.inside.TextKeys.{key_of}
use Rattle.batch_stats.specs.declared.texts.SlotText.{SlotText}
use Rattle.batch_stats.specs.declared.texts.TextRange.{TextRange}

-- one of the slots `from` up to, not with, `to` has the text
pub record IsTextAt (slot : ℕ → Value) (from to : ℕ) (text : SlotText) : Type 0 where
  pub low : from ≤ text.place
  pub high : text.place < to
  pub is : slot text.place ≡ Text text.text.now

-- both ends are texts of such slots
abbrev pub AreEndsAt : (ℕ → Value) → ℕ → ℕ → TextRange → Type 0
AreEndsAt slot from to range =
    IsTextAt slot from to range.least × IsTextAt slot from to range.greatest

-- a text has its own key, and each of its bytes is one
pub record IsKeyed (text : SlotText) : Type 0 where
  pub key : text.key ≡ key_of text.text.now
  pub bytes : AreBytes text.text.now

-- both ends are such texts
abbrev pub AreKeyed : TextRange → Type 0
AreKeyed range = IsKeyed range.least × IsKeyed range.greatest

-- a text changes no end where its key is from one up to another
abbrev pub KeepsEnds : Option (Value × Value) → ℕ → ℕ → Type 0
KeepsEnds ends low high = (text : List ℕ) → AreBytes text → low ≤ key_of text → key_of text ≤ high →
    with_value ends (Text text) ≡ ends
