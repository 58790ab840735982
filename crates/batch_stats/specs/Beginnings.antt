-- Texts of which the first bytes are known.
use Rattle.std.specs.Prelude.{◌≡◌, ℕ, Bool, true, false, List, ◌∷◌, ◌++◌, Some}
use Rattle.scan_base.specs.declared.value.Value.TheVariants.{Text}
use Rattle.batch_stats.specs.declared.beginnings.Beginnings.{Beginnings}
use Rattle.batch_stats.specs.Stats.{StatsAt}

-- the first bytes of a text: they are all of it, or at least one follows
abbrev pub AreFirst : List ℕ → Bool → List ℕ → Type 0
AreFirst first true text = text ≡ first
AreFirst first false text = (next : ℕ) × (rest : List ℕ) × (text ≡ first ++ next ∷ rest)

-- the statistics are of texts with so many nulls, and these are the first bytes of the least text
-- and of the greatest
pub record BeginSo (low high : List ℕ × Bool) (count : ℕ) (stats : StatsAt) : Type 0 where
  pub least : List ℕ
  pub greatest : List ℕ
  pub ends : stats.ends ≡ Some (Text least, Text greatest)
  pub least_first : AreFirst low.0 low.1 least
  pub greatest_first : AreFirst high.0 high.1 greatest
  pub nulls : stats.nulls ≡ count

-- the same, as the code has them
abbrev pub AreBeginnings : Beginnings → StatsAt → Type 0
AreBeginnings known stats = BeginSo (known.least.first.now, known.least.is_whole)
    (known.greatest.first.now, known.greatest.is_whole) known.nulls stats
