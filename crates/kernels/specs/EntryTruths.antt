-- Inside: the truths of slots of a dictionary.
use Rattle.std.specs.Prelude.{ℕ}
use Rattle.scan_base.specs.declared.truth.Truth.{Truth}
use Rattle.arrays.specs.Validity.{is_valid}
use Rattle.kernels.specs.declared.entries.ByEntry.{ByEntry}
use Rattle.kernels.specs.Codes.{code_at}
use Rattle.kernels.specs.Entries.{by_entry}

-- the truth of a slot
abbrev pub entry_truth : ByEntry → ℕ → Truth
entry_truth s place = by_entry s.truths.now s.of_null (is_valid s.indices.validity.now place)
    (code_at s.indices.integer s.indices.values.now place)
