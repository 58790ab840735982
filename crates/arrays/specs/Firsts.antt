-- The texts among values, each once, by first appearance.
use Rattle.std.specs.Prelude.{ℕ, List, [], ◌∷◌, ◌++◌, fold, if◌then◌else◌}
use Rattle.std.specs.List.{flat_map, list_any}
use Rattle.std.specs.Str.{bytes_eq}
use Rattle.scan_base.specs.declared.value.Value.{Value}
use Rattle.scan_base.specs.declared.value.Value.TheVariants.{Text}

-- the text of a value, if it is one
abbrev pub text_in : Value → List (List ℕ)
text_in (Text bytes) = bytes ∷ []
text_in _ = []

-- texts with one more after them, where it is none of them
abbrev pub with_text : List (List ℕ) → List ℕ → List (List ℕ)
with_text found text = if list_any (bytes_eq text) found then found else found ++ text ∷ []

-- texts that were found, and then those of more values that are new
abbrev pub firsts_behind : List (List ℕ) → List Value → List (List ℕ)
firsts_behind found values = fold with_text found (flat_map text_in values)

-- the texts among values, each once, by first appearance
abbrev pub firsts : List Value → List (List ℕ)
firsts values = firsts_behind [] values
