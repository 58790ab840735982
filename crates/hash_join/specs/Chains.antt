-- Inside: chains of the right rows of each bucket. No chain is a list: the next row of a chain is
-- the first one after which stands in it.
use Rattle.std.specs.Prelude.{◌≡◌, ◌≤◌, ◌<◌, ◌+◌, ◌==◌, ℕ, Bool, true, false, List, length, get_or}
use Rattle.std.specs.Prelude.{Option, Some, None}
use Rattle.hash_join.specs.declared.rights.Rights.{Rights}
use Rattle.hash_join.specs.Hashes.{last_of}
use Rattle.hash_join.specs.declared.chains.Chains.{Chains}
use Rattle.hash_join.specs.Rights.{bucket_at, key_at}

-- whether a row of the second bucket stands in the chain of the first; without a bucket it stands
-- in none
abbrev pub stands : Option ℕ → Option ℕ → Bool
stands None found = false
stands (Some bucket) None = false
stands (Some bucket) (Some found) = found == bucket

-- of `count` rows from a row on, `head` is the first that stands in a chain, or `count` where none
-- does
pub record Leads (in_chain : ℕ → Bool) (count from head : ℕ) : Type 0 where
  pub after : from ≤ head
  pub none : (row : ℕ) → from ≤ row → row < head → in_chain row ≡ false
  pub there : head < count → in_chain head ≡ true

-- The rows from a row on are linked: each bucket has the first of its chain, and each row that has
-- a bucket the next of its chain.
pub record AreLinked (buckets : ℕ → Option ℕ) (last count : ℕ) (heads links : List ℕ)
    (from : ℕ) : Type 0 where
  pub heads_count : length heads ≡ last + 1
  pub links_count : length links ≡ count
  pub first : (bucket : ℕ) → bucket ≤ last →
      Leads (λ row. stands (Some bucket) (buckets row)) count from (get_or heads bucket 0)
  pub next : (row bucket : ℕ) → from ≤ row → row < count → buckets row ≡ Some bucket →
      Leads (λ later. stands (Some bucket) (buckets later)) count (row + 1) (get_or links row 0)

-- the rows of a right side from a row on are linked
abbrev pub HasLinked : Rights → List ℕ → List ℕ → ℕ → Type 0
HasLinked rights heads links from = AreLinked (bucket_at rights) (last_of rights.buckets)
    (length rights.places.items) heads links from

-- where a row says so, the row that its link names has the same key
pub record AreRepeats (rights : Rights) (links : List ℕ) (repeats : List Bool) : Type 0 where
  pub count : length repeats ≡ length rights.places.items
  pub same : (row : ℕ) → row < length rights.places.items → get_or repeats row false ≡ true →
      key_at rights row ≡ key_at rights (get_or links row 0)

-- all rows of a right side are linked, and those that say so have the key of the next
pub record HasChains (rights : Rights) (chains : Chains) : Type 0 where
  pub linked : HasLinked rights chains.heads.items chains.links.items 0
  pub repeats : AreRepeats rights chains.links.items chains.repeats.items
