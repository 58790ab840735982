-- Inside: numbers of long texts that were seen in a batch.
use Rattle.std.specs.Prelude.{ℕ, List}
use Rattle.std.specs.Borrow.{Bor}
use Rattle.arrays.specs.Batch.{BatchAt}
use Rattle.coded_keys.specs.declared.numbers.SeenNumbers.{SeenNumbers}
use Rattle.coded_keys.specs.Numbers.{AreNumbers}
use Rattle.first_rows.specs.Numbers.{text_number}
use Rattle.grouping.specs.declared.seen_batch.SeenBatch.{SeenBatch}
use Rattle.grouping.specs.FedRows.{batch_at}

-- the numbers that were kept of rows of a batch are those of their texts
abbrev pub AreSeenOf : List (Bor (List ℕ)) → BatchAt → List ℕ → SeenNumbers → Type 0
AreSeenOf texts batch keys seen = AreNumbers (text_number texts) batch keys seen.places.items

-- those that are kept with the number of a batch are of rows of that batch
abbrev pub AreSeenIn : List (Bor (List ℕ)) → List BatchAt → List ℕ → SeenBatch → Type 0
AreSeenIn texts batches keys seen = AreSeenOf texts (batch_at batches seen.number) keys seen.numbers
