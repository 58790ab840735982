-- Inside: numbers and truth values of a column, 64 at a time.
use Rattle.std.specs.Prelude.{◌≡◌, ◌<◌, ◌+◌, ℕ, ℤ, pos, List, get_or, if◌then◌else◌}
use Rattle.scan_base.specs.declared.value.Value.TheVariants.{Null, Int, Bool as Flag}
use Rattle.arrays.specs.Column.{ColumnAt, slot_of}
use Rattle.kernels.specs.declared.word.Word.{Word}
use Rattle.kernels.specs.Words.{bit}

-- the slots of 64 rows: a number where the row's bit is 1, and else null
abbrev pub HasNumbers : ColumnAt → ℕ → List ℤ → ℕ → Type 0
HasNumbers column from numbers knowns =
    (row : ℕ) → row < 64 → slot_of column (from + row)
    ≡ (if bit knowns row then Int (get_or numbers row (pos 0)) else Null)

-- the same of truth values: a word has the slot's value where the row is known
abbrev pub HasFlags : ColumnAt → ℕ → Word → Type 0
HasFlags column from word =
    (row : ℕ) → row < 64 →
    slot_of column (from + row) ≡ (if bit word.knowns row then Flag (bit word.truths row) else Null)
