-- Inside: what stands for the bytes of a text in quotes.
use Rattle.std.specs.Prelude.{ℕ, ◌==◌, List, [], ◌∷◌, codes, if◌then◌else◌}

-- a quote stands twice
abbrev pub doubled_byte : ℕ → List ℕ
doubled_byte byte = if byte == 34 then codes "\"\"" else byte ∷ []
