-- The rows of the right side by their numbers.
use Rattle.std.proofs.Common.{◌≡◌, ◌<◌, ℕ, true, [], length, get_or, ap, sym, subst, ◌∙◌, nat_lt}
use Rattle.std.specs.List.{list_all}
use Rattle.std.proofs.lemmas.List.{get_or_read}
use Rattle.arrays.specs.Batch.{BatchAt, row_of}
use Rattle.hash_join.specs.declared.rights.Rights.{Rights}
use Rattle.hash_join.specs.Pairs.{key_values, row_at}
use Rattle.hash_join.proofs.Places.{IsPlace, place_there}
use Rattle.hash_join.specs.Rights.{place_at, key_at, key_from, AreRights}

-- no columns and no rows
abbrev pub nothing : BatchAt
nothing = record { columns = []; rows = 0 }

-- the place of a row is there
pub place_is : (rights : Rights) (number : ℕ) → AreRights rights → number < length rights.places.items →
    IsPlace rights.batches.items (place_at rights number)
place_is rights number whole h =
    rw (whole.places) (place_there rights.batches.items number (rw whole.places at h))

module _ (rights : Rights) (number : ℕ) (place : ℕ × ℕ) (whole : AreRights rights) (within : number < length rights.places.items)
    (is : place ≡ get_or rights.places.items number place) where
  found : place ≡ place_at rights number
  found = get_or_read rights.places.items number place within is (0, 0)

  pub batch_there : place.0 < length rights.batches.items
  batch_there = rw found (place_is rights number whole within).batch

  module _ (batch : BatchAt) (at : batch ≡ get_or rights.batches.items place.0 batch) where
    batch_found : batch ≡ get_or rights.batches.items place.0 nothing
    batch_found = get_or_read rights.batches.items place.0 batch batch_there at nothing

    pub row_there : place.1 < batch.rows
    row_there =
        let there = (place_is rights number whole within).row in
        rw (batch_found, found) there

    pub columns_there : list_all (λ column. nat_lt column (length batch.columns)) rights.key.items ≡ true
    columns_there = rw at (whole.columns place.0 batch batch_there)

    pub key_found : key_values rights.key.items (row_of batch.columns place.1) ≡ key_at rights number
    key_found = ap (λ (b : BatchAt). key_values rights.key.items (row_of b.columns place.1)) batch_found
        ∙ ap (λ (p : ℕ × ℕ). key_values rights.key.items (row_at rights.batches.items p)) found

    -- it is the batch of the row's place
    pub batch_is : batch ≡ get_or rights.batches.items (place_at rights number).0 nothing
    batch_is = batch_found ∙ ap (λ (p : ℕ × ℕ). get_or rights.batches.items p.0 nothing) found

module _ (rights : Rights) (number other : ℕ) (place : ℕ × ℕ) (same : (place_at rights number).0 ≡ (place_at rights other).0) (is : place ≡ place_at rights other) where
  -- a row of the same batch, by the batch of the first
  pub beside_there : AreRights rights → other < length rights.places.items → place.1 < (get_or rights.batches.items (place_at rights number).0 nothing).rows
  beside_there whole within =
      let there = (place_is rights other whole within).row in
      subst (λ (batch : ℕ). place.1 < (get_or rights.batches.items batch nothing).rows) (sym same)
      (subst (λ (p : ℕ × ℕ). p.1 < (get_or rights.batches.items (place_at rights other).0 nothing).rows) (sym is) there)

  -- its key
  pub beside_found : key_from rights ((place_at rights number).0, place.1) ≡ key_at rights other
  beside_found = ap (λ (batch : ℕ). key_from rights (batch, place.1)) same
      ∙ ap (λ (p : ℕ × ℕ). key_from rights ((place_at rights other).0, p.1)) is
