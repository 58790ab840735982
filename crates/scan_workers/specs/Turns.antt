-- What comes of a turn to the next answer.
use Rattle.std.specs.Prelude.{◌≡◌, ◌<◌, ◌≤◌, ◌+◌, ℕ}
use Rattle.scan_workers.specs.declared.morsel_work.NextAnswer.{NextAnswer}
use Rattle.scan_workers.specs.declared.morsel_work.NextAnswer.TheVariants.{Given, Going, End}

-- The next answer of so many morsels, where so many were given before: it is right, or it is not
-- there yet, or all were given. How many are given then.
abbrev pub Comes : {A : Type 0} → (ℕ → A → Type 0) → ℕ → ℕ → NextAnswer A → ℕ → Type 0
Comes right count given (Given answer) now =
    right given answer × (given < count) × (now ≡ given + 1)
Comes right count given Going now = now ≡ given
Comes right count given End now = (count ≤ given) × (now ≡ given)
