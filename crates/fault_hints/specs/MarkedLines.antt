-- The line of a text in which a byte stands, and a mark under it.
use Rattle.std.specs.Prelude.{ℕ, ◌==◌, ◌-◌, ◌||◌, Bool, not, nat_lt, nat_le, List, ◌∷◌, ◌++◌}
use Rattle.std.specs.Prelude.{length, take, drop, map, filter, codes, if◌then◌else◌}
use Rattle.std.specs.List.{prefix_len, suffix_len}

-- not LF, which ends a line
abbrev pub continues_line : ℕ → Bool
continues_line b = not (b == 10)

-- what stands before the first LF of a text, or all of it
abbrev pub first_line : List ℕ → List ℕ
first_line text = take (prefix_len continues_line text) text

-- what stands after its last LF, or all of it
abbrev pub last_line : List ℕ → List ℕ
last_line text = drop (length text - suffix_len continues_line text) text

-- how a byte of a line is shown: a control byte as a blank
abbrev pub shown_byte : ℕ → ℕ
shown_byte b = if nat_lt b 32 || (b == 127) then 32 else b

-- whether a byte begins a character of UTF-8
abbrev pub begins_character : ℕ → Bool
begins_character b = nat_lt b 128 || nat_le 192 b

-- a blank for each character
abbrev pub blanks_of : List ℕ → List ℕ
blanks_of line = map (λ b. 32) (filter begins_character line)

-- The line in which a byte of a text stands, and a line with a mark under it. Where the text has no
-- such byte, the mark stands after its last line.
unfoldable pub marked : List ℕ → ℕ → List ℕ
marked text place =
    map shown_byte (last_line (take place text) ++ first_line (drop place text))
    ++ 10 ∷ (blanks_of (last_line (take place text)) ++ codes "^\n")
