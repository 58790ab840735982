-- Batches from a number on.
use Rattle.std.proofs.Common.{◌≡◌, ◌<◌, ℕ, zero, suc, ◌+◌, List, [], ◌∷◌, length, drop, arith}
use Rattle.arrays.specs.Batch.{BatchAt}
use Rattle.join_batches.specs.Rows.{batch_numbered}

-- the first of them has the number
pub first_at : (all : List BatchAt) (number : ℕ) (batch : BatchAt) (rest : List BatchAt) → drop number all ≡ batch ∷ rest → batch_numbered all number ≡ batch
first_at [] zero batch rest e = cc
first_at [] (suc number) batch rest e = cc
first_at (one ∷ all) zero batch rest e = cc
first_at (one ∷ all) (suc number) batch rest e = first_at all number batch rest e

pub first_within : (all : List BatchAt) (number : ℕ) (batch : BatchAt) (rest : List BatchAt) → drop number all ≡ batch ∷ rest → number < length all
first_within [] zero batch rest e = cc
first_within [] (suc number) batch rest e = cc
first_within (one ∷ all) zero batch rest e = omega arith
first_within (one ∷ all) (suc number) batch rest e = let h = first_within all number batch rest e in omega (arith, h)

-- the others begin at the next number
behind_first : (all : List BatchAt) (number : ℕ) (batch : BatchAt) (rest : List BatchAt) → drop number all ≡ batch ∷ rest → drop (suc number) all ≡ rest
behind_first [] zero batch rest e = cc
behind_first [] (suc number) batch rest e = cc
behind_first (one ∷ all) zero batch rest e = cc
behind_first (one ∷ all) (suc number) batch rest e = behind_first all number batch rest e

pub others_from : (all : List BatchAt) (number : ℕ) (batch : BatchAt) (rest : List BatchAt) → drop number all ≡ batch ∷ rest → drop (number + 1) all ≡ rest
others_from all number batch rest e = let one : number + 1 ≡ suc number = omega arith in rw one (behind_first all number batch rest e)
