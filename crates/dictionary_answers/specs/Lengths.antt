-- How many bytes the bodies have of the messages of a batch and of its dictionaries.
use Rattle.std.specs.Prelude.{ℕ, ◌+◌, ◌*◌, ◌-◌, ◌%◌, List, [], ◌∷◌, length}
use Rattle.arrow_types.specs.declared.data_type.DataType.{DataType}
use Rattle.arrow_types.specs.declared.data_type.DataType.TheVariants.{Dictionary}
use Rattle.arrow_types.specs.declared.schema.Field.{Field}
use Rattle.arrays.specs.Column.{ColumnAt, values_of}
use Rattle.array_buffers.specs.ColumnBuffers.{validity_written, buffers_written}
use Rattle.dictionary_answers.specs.Firsts.{firsts, bytes_in}
use Rattle.ipc_batch.specs.SaidRows.{Sent}
use Rattle.ipc_batch.specs.WrittenMessages.{body_of}

-- so many bytes, and zeros after them up to a multiple of 8
abbrev pub with_zeros : ℕ → ℕ
with_zeros bytes = bytes + (8 - bytes % 8) % 8

-- a dictionary of these texts: their offsets, and their bytes
abbrev pub texts_length : List (List ℕ) → ℕ
texts_length texts = with_zeros (4 * (length texts + 1)) + with_zeros (bytes_in texts)

-- a column: of one that is answered as a dictionary the texts that it holds, its validity bits, and
-- its indices
abbrev pub column_length : DataType → ColumnAt → ℕ
column_length (Dictionary encoding) column = texts_length (firsts (values_of column))
    + (with_zeros (length (validity_written column)) + with_zeros (4 * column.len))
column_length _ column = length (body_of (buffers_written column))

-- columns, one for each field
abbrev pub dressed_length : List Field → List ColumnAt → ℕ
dressed_length (field ∷ fields) (column ∷ columns) =
    column_length field.data_type column + dressed_length fields columns
dressed_length _ _ = 0

-- messages, all together
abbrev pub bodies_length : List Sent → ℕ
bodies_length [] = 0
bodies_length (sent ∷ more) = length sent.body + bodies_length more
