-- Inside: what cutting a batch gives.
use Rattle.std.specs.Prelude.{◌≡◌, ◌≤◌, ◌<◌, ◌⊎◌, ℕ, ◌+◌, ◌*◌, ◌-◌, min}
use Rattle.arrow_types.specs.declared.schema.Schema.{Schema}
use Rattle.arrays.specs.Batch.{cut_batch, rows_of}
use Rattle.dictionary_answers.specs.Lengths.{dressed_length}
use Rattle.flight_info.specs.Payloads.{FitMessages}
use Rattle.fetch_stream.specs.Streams.{Parcel, most_message_rows, most_body_bytes}
use Rattle.fetch_stream.specs.declared.cutter.Cutter.{Cutter}
use Rattle.fetch_stream.specs.inside.RowsAhead.{IsCutter}
use Rattle.fetch_stream.specs.inside.WrittenPayloads.{SaysRows}

-- so many of the next rows, more than some and at most twice as many and one, have too long bodies
-- for a message and its dictionaries
pub record IsTooMany (schema : Schema) (cutter : Cutter) (some many : ℕ) : Type 0 where
  pub more : some < many
  pub near : many ≤ 2 * some + 1
  pub within : cutter.at + many ≤ cutter.batch.rows
  pub long : most_body_bytes
      < dressed_length schema.fields (cut_batch cutter.batch cutter.at (cutter.at + many)).columns

-- A message of so many rows reaches as far as it may: they are as many as the next message may
-- have, or all that are left; or else some twice as many would have been too many.
abbrev pub ReachesFar : Schema → Cutter → ℕ → Type 0
ReachesFar schema cutter rows = (rows ≡ min cutter.most (cutter.batch.rows - cutter.at))
    ⊎ ((many : ℕ) × IsTooMany schema cutter rows many)

-- A parcel says the next rows of a batch, one or more and as many as it may, and the cutter stands
-- after them. The next message may have twice as many.
pub record Cuts (schema : Schema) (before : Cutter) (parcel : Parcel)
    (after : Cutter) : Type 0 where
  pub placed : IsCutter after
  pub batch : after.batch ≡ before.batch
  pub forth : before.at < after.at
  pub few : after.at - before.at ≤ most_message_rows
  pub far : ReachesFar schema before (after.at - before.at)
  pub again : after.most ≡ min (2 * (after.at - before.at)) most_message_rows
  pub said : SaysRows parcel schema (rows_of (cut_batch before.batch before.at after.at))
  pub fits : FitMessages parcel
