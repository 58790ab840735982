-- Parts of what is written of slots: packed elements, and the offsets and the bytes of texts.
use Rattle.std.specs.Prelude.{ℕ, ◌+◌, ◌*◌, List, [], ◌∷◌, ◌++◌, length, slice_range}
use Rattle.std.specs.List.{flat_map}
use Rattle.byteorder.specs.Endian.{little_bytes}
use Rattle.scan_base.specs.declared.value.Value.{Value}
use Rattle.scan_base.specs.declared.value.Value.TheVariants.{Text}

-- the bytes of so many packed elements of a width, the first of them at a place
abbrev pub elements : ℕ → List ℕ → ℕ → ℕ → List ℕ
elements width values first len = slice_range values (width * first) (width * (first + len))

-- the bytes of a text, and none where there is no text
abbrev pub text_bytes : Value → List ℕ
text_bytes (Text bytes) = bytes
text_bytes _ = []

-- the offsets that cut texts which stand one after another, the first at a place: four bytes each
abbrev pub offsets_from : ℕ → List Value → List ℕ
offsets_from at [] = little_bytes 4 at
offsets_from at (value ∷ values) =
    little_bytes 4 at ++ offsets_from (at + length (text_bytes value)) values

-- the bytes of all texts
abbrev pub texts_joined : List Value → List ℕ
texts_joined values = flat_map text_bytes values
