-- Inside: how many bytes the bodies have that are written of dictionaries.
use Rattle.std.specs.Prelude.{ℕ, ◌+◌, List, [], ◌∷◌}
use Rattle.dictionary_answers.specs.declared.batches.ColumnDictionary.{ColumnDictionary}
use Rattle.ipc_batch.specs.WrittenMessages.{body_length, values_batch}

-- of one
abbrev pub written_length : ColumnDictionary → ℕ
written_length dictionary = body_length (values_batch dictionary.texts)

-- of all
abbrev pub all_written : List ColumnDictionary → ℕ
all_written [] = 0
all_written (dictionary ∷ more) = written_length dictionary + all_written more
