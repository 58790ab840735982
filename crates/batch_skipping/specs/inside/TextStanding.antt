-- How texts stand to one text.
use Rattle.std.specs.Prelude.{◌≡◌, ◌∷◌, [], ℕ, List, Some}
use Rattle.std.specs.Cmp.Lexicographic.{slice_cmp}
use Rattle.std.specs.Ordering.{nat_cmp}
use Rattle.scan_base.specs.declared.value.Value.TheVariants.{Text}
use Rattle.batch_skipping.specs.declared.text_standing.TextStanding.{TextStanding}
use Rattle.batch_stats.specs.Stats.{StatsAt, stats_of}

-- the first statistics are of texts of which the least and the greatest stand so to one text, and
-- the second are of this text
pub record StandSo (standing : TextStanding) (a b : StatsAt) : Type 0 where
  pub least : List ℕ
  pub greatest : List ℕ
  pub text : List ℕ
  pub ends : a.ends ≡ Some (Text least, Text greatest)
  pub alone : b ≡ stats_of (Text text ∷ [])
  pub low : standing.least ≡ slice_cmp nat_cmp least text
  pub high : standing.greatest ≡ slice_cmp nat_cmp greatest text
  pub nulls : a.nulls ≡ standing.nulls
