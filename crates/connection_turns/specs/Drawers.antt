-- What a contract sees of the turns, and of a drawer.
use Rattle.std.specs.Prelude.{ℕ}
use Rattle.atomic_table.specs.Seated.{TableId}

-- which word it is, how many turns there were at first, and in how many parts they may be drawn
pub record TurnsAt : Type 0 where
  pub name : TableId
  pub most : ℕ
  pub parts : ℕ

-- the word of a drawer, its parts, how many turns it drew, and how often it was told that none is
-- left
pub record DrawerAt : Type 0 where
  pub name : TableId
  pub parts : ℕ
  pub drawn : ℕ
  pub ended : ℕ

-- such turns
abbrev pub turns_at : TableId → ℕ → ℕ → TurnsAt
turns_at name most parts = record { name = name; most = most; parts = parts }

-- such a drawer
abbrev pub drawer_at : TableId → ℕ → ℕ → ℕ → DrawerAt
drawer_at name parts drawn ended =
    record { name = name; parts = parts; drawn = drawn; ended = ended }
