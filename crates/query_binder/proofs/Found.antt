-- The search for the one column that a name means.
use Rattle.std.proofs.Common.{ℕ, List, [], ◌∷◌, Option, Some, None}

abbrev pub listed : Option ℕ → List ℕ
listed None = []
listed (Some number) = number ∷ []
