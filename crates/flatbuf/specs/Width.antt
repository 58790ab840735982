-- How many bytes a scalar has.
use Rattle.std.specs.Prelude.{ℕ}
use Rattle.flatbuf.specs.declared.width.Width.{Width}
use Rattle.flatbuf.specs.declared.width.Width.TheVariants.{One, Two, Four, Eight}

abbrev pub bytes_in : Width → ℕ
bytes_in One = 1
bytes_in Two = 2
bytes_in Four = 4
bytes_in Eight = 8
