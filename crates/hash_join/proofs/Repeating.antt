-- Rows whose link names one with the same key.
use Rattle.std.proofs.Common.{◌≡◌, ℕ, true, sym, ◌∙◌}
use Rattle.std.proofs.lemmas.List.{length-map}
use Rattle.scan_base.specs.Predicate.{cell_in}
use Rattle.hash_join.specs.declared.rights.Rights.{Rights}
use Rattle.hash_join.specs.Pairs.{keys_join, row_at}
use Rattle.hash_join.specs.Rights.{key_at, place_at}
use Rattle.hash_join.proofs.EqualKeys.{same_keys}

-- right rows that join have the same key
pub same_joined : (rights : Rights) (row other : ℕ) → keys_join (key_at rights row) (key_at rights other) ≡ true → key_at rights row ≡ key_at rights other
same_joined rights row other joined =
    same_keys (key_at rights row) (key_at rights other)
    (length-map rights.key.items (cell_in (row_at rights.batches.items (place_at rights row)))
    ∙ sym (length-map rights.key.items (cell_in (row_at rights.batches.items (place_at rights other))))) joined
