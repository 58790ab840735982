-- The keys of texts.
use Rattle.std.specs.Prelude.{ℕ, ◌+◌, ◌*◌, List, length, min}
use Rattle.byteorder.specs.Endian.{big_number}

-- the first seven bytes as a number, with zeros after the last of fewer, and below them how many of
-- the first eight there are
abbrev pub key_of : List ℕ → ℕ
key_of text = 256 * big_number 7 text + min (length text) 8
