-- Inside: a left batch whose rows look for their partners.
use Rattle.std.specs.Prelude.{◌≡◌, ◌≤◌, ◌<◌, ◌+◌, ◌^◌, ℕ, ℤ, Bool, true, false, List, [], ◌∷◌}
use Rattle.std.specs.Prelude.{Option, Some, None, IsTrue, length, get_or, nat_lt}
use Rattle.std.specs.List.{list_all}
use Rattle.hash_join.specs.declared.build.Probe.{Probe}
use Rattle.hash_join.specs.declared.pair.Pair.{Pair}
use Rattle.hash_join.specs.declared.rights.Rights.{Rights}
use Rattle.hash_join.specs.declared.chains.Chains.{Chains}
use Rattle.hash_join.specs.declared.search.Search.{Search}
use Rattle.hash_join.specs.declared.left_pieces.Start.{Start}
use Rattle.hash_join.specs.declared.number_look.BucketKind.{BucketKind}
use Rattle.hash_join.specs.declared.number_look.BucketKind.TheVariants as known
use Rattle.hash_join.specs.declared.walk.Walk.{Walk}
use Rattle.arrays.specs.declared.layout.Layout.TheVariants as layout
use Rattle.arrays.specs.Column.{ColumnAt}
use Rattle.arrays.specs.Integers.{IntegersAt}
use Rattle.scan_base.specs.declared.value.Value.TheVariants.{Int}
use Rattle.hash_join.specs.KeyRows.{row_key}
use Rattle.hash_join.specs.Hashes.{last_of}
use Rattle.hash_join.specs.Walks.{in_chain, pairs_past, bucket_left, JoinsChain}
use Rattle.hash_join.specs.Pairs.{BuildAt, pairs_ahead}
use Rattle.hash_join.specs.Rights.{AreRights}
use Rattle.hash_join.specs.Chains.{AreRepeats, HasLinked, Leads}

-- the right side, as contracts see it
abbrev pub build_of : Rights → BuildAt
build_of rights = record { batches = rights.batches.items; key = rights.key.items }

-- the right rows are there, and are linked
pub record IsBuilt (rights : Rights) (chains : Chains) : Type 0 where
  pub whole : AreRights rights
  pub linked : HasLinked rights chains.heads.items chains.links.items 0
  pub repeats : AreRepeats rights chains.links.items chains.repeats.items

-- the right rows are linked, and the left batch has a key of as many parts
pub record IsSearch (search : Search) : Type 0 where
  pub built : IsBuilt search.rights.now search.chains.now
  pub alike : length search.left.key.now ≡ length search.rights.now.key.items
  pub columns : IsTrue (list_all (λ column. nat_lt column (length search.left.batch.now.columns))
      search.left.key.now)
  pub small : search.left.batch.now.rows < 2 ^ 32

-- a place that is looked from
abbrev pub probe_at : ℕ → ℕ → Probe
probe_at left from = record { left = left; from = from }

-- the pairs that are still to be given
abbrev pub ahead_of : Search → Probe → List Pair
ahead_of search probe =
    pairs_ahead (build_of search.rights.now) search.left.batch.now search.left.key.now probe

-- a left row of the batch
abbrev pub walk_at : Search → ℕ → Walk
walk_at search row = record {
  rights = search.rights;
  chains = search.chains;
  left = record { batch = search.left.batch; key = search.left.key; row = row };
}

-- a left row that does not pass joins nothing
abbrev pub Passes : Search → (ℕ → Bool) → Type 0
Passes search passes = (row from : ℕ) → row < search.left.batch.now.rows → passes row ≡ false →
    pairs_past (walk_at search row) from ≡ []

-- a left row has this bucket
pub record HasBucket (search : Search) (row bucket : ℕ) : Type 0 where
  pub is : bucket_left (walk_at search row) ≡ Some bucket
  pub within : bucket ≤ last_of search.rights.now.buckets

-- what is told of a left row is so
abbrev pub IsBucketKind : Search → ℕ → BucketKind → Type 0
IsBucketKind search row known.Nothing = Unit {0}
IsBucketKind search row (known.Shared bucket) = HasBucket search row bucket
IsBucketKind search row (known.Own bucket) =
    HasBucket search row bucket × JoinsChain (walk_at search row)

abbrev pub Tells : Search → (ℕ → BucketKind) → Type 0
Tells search told = (row : ℕ) → row < search.left.batch.now.rows →
    IsBucketKind search row (told row)

-- the first row of a bucket's chain, and the number of right rows where there is no bucket
abbrev pub head_of : Search → Option ℕ → ℕ
head_of search None = length search.rights.now.places.items
head_of search (Some bucket) = get_or search.chains.now.heads.items bucket 0

-- the first right row of a left row's chain
abbrev pub first_right : Search → ℕ → ℕ
first_right search row = head_of search (bucket_left (walk_at search row))

-- a left row's chain begins with this right row, and where the bucket is its own it joins each row
-- of it
pub record IsHead (search : Search) (own : Bool) (row head : ℕ) : Type 0 where
  pub leads : Leads (in_chain (walk_at search row)) (length search.rights.now.places.items) 0 head
  pub all : own ≡ true → JoinsChain (walk_at search row)

-- the heads of the chains of left rows that pass
abbrev pub AreHeads : Search → (ℕ → Bool) → (ℕ → ℕ) → Bool → Type 0
AreHeads search passes head own = (row : ℕ) → row < search.left.batch.now.rows → passes row ≡ true →
    IsHead search own row (head row)

-- a left row with the head of its chain
abbrev pub start_at : (ℕ → ℕ) → ℕ → Start
start_at head row = record { left = row; head = head row }

-- the first left row of those that may join, and the end where there is none
abbrev pub first_left : ℕ → List Start → ℕ
first_left to [] = to
first_left to (start ∷ starts) = start.left

-- the left rows between a start and the next one join nothing
pub record IsStart (search : Search) (own : Bool) (next : ℕ) (start : Start) : Type 0 where
  pub before : start.left < next
  pub within : next ≤ search.left.batch.now.rows
  pub none : (row : ℕ) → start.left < row → row < next → pairs_past (walk_at search row) 0 ≡ []
  pub head : IsHead search own start.left start.head

-- the left rows from the first of these on that may join, before a row
abbrev pub AreStarts : Search → Bool → ℕ → List Start → Type 0
AreStarts search own to [] = Unit {0}
AreStarts search own to (start ∷ starts) =
    IsStart search own (first_left to starts) start × AreStarts search own to starts

-- what is told of a number is so of each left row whose key it is
pub record TellsNumbers (search : Search) (passes : ℤ → Bool) (told : ℤ → BucketKind) (head : ℤ → ℕ)
    (own : Bool) : Type 0 where
  pub sound : (row from : ℕ) (number : ℤ) → row < search.left.batch.now.rows →
      row_key (walk_at search row).left ≡ Int number ∷ [] → passes number ≡ false →
      pairs_past (walk_at search row) from ≡ []
  pub holds : (row : ℕ) (number : ℤ) → row < search.left.batch.now.rows →
      row_key (walk_at search row).left ≡ Int number ∷ [] → IsBucketKind search row (told number)
  pub heads : (row : ℕ) (number : ℤ) → row < search.left.batch.now.rows →
      row_key (walk_at search row).left ≡ Int number ∷ [] → passes number ≡ true →
      IsHead search own row (head number)

-- the left key is one column of integers
pub record AreKeysOf (search : Search) (cells : IntegersAt) (first : ℕ) : Type 0 where
  pub single : length search.left.key.now ≡ 1
  pub slots : (other : ColumnAt) →
      get_or search.left.batch.now.columns (get_or search.left.key.now 0 0) other
      ≡ record { layout = layout.Integers cells; first = first; len = search.left.batch.now.rows }
  pub there : first + search.left.batch.now.rows ≤ cells.len
