-- Inside: the next answer of a morsel, as it comes to a reader with patience.
use Rattle.std.specs.Prelude.{◌≡◌, ◌≢◌, ◌≤◌, ◌<◌, ℕ, ◌+◌}
use Rattle.row_sources.specs.declared.turn.Patience.{Patience}
use Rattle.row_sources.specs.declared.turn.Patience.TheVariants.{Endless}
use Rattle.scan_workers.specs.declared.morsel_work.NextAnswer.{NextAnswer}
use Rattle.scan_workers.specs.declared.morsel_work.NextAnswer.TheVariants.{Given, Going, End}

-- the next answer of so many, where so many were given before: it is not there yet only where
-- patience has an end
abbrev pub ComesIn : {A : Type 0} → Patience → (ℕ → A → Type 0) → ℕ → ℕ → NextAnswer A → ℕ → Type 0
ComesIn patience right count given (Given answer) now =
    right given answer × (given < count) × (now ≡ given + 1)
ComesIn patience right count given Going now = (now ≡ given) × (patience ≢ Endless)
ComesIn patience right count given End now = (count ≤ given) × (now ≡ given)
