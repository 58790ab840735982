-- Inside: batches cut into parts of consecutive ones.
use Rattle.std.specs.Prelude.{ℕ, ◌+◌, ◌*◌, ◌/◌, ◌%◌, min}

-- How many batches stand before the part of a number, where so many batches are cut into so many
-- parts. No two parts differ by more than one batch: where the division leaves a rest, each of the
-- first parts has one batch of it.
abbrev pub batches_before : ℕ → ℕ → ℕ → ℕ
batches_before batches parts number = number * (batches / parts) + min number (batches % parts)
