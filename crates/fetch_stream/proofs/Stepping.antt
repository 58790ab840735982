-- A stream goes on: the next batch, and the next rows of it.
use Rattle.std.proofs.Common.{◌≡◌, ◌≤◌, ◌<◌, ℕ, zero, suc, ◌+◌, ◌/◌, false, List, [], ◌++◌, length, refl, sym, ap, subst, ◌∙◌, append_assoc, arith, inr}
use Rattle.std.specs.List.{list_any}
use Rattle.scan_base.specs.Limits.{most_columns}
use Rattle.arrays.specs.Batch.{BatchAt, BatchSlicesKeepRows, rows_of, cut_batch}
use Rattle.table_versions.specs.Table.{Row, is_long_text}
use Rattle.arrow_types.specs.declared.schema.Schema.{Schema}
use Rattle.dictionary_answers.specs.Lengths.{dressed_length}
use Rattle.fetch_stream.specs.Streams.{Parcel, most_body_bytes}
use Rattle.fetch_stream.specs.declared.cutter.Cutter.{Cutter}
use Rattle.fetch_stream.specs.declared.source.Source.{Source}
use Rattle.fetch_stream.specs.inside.RowsAhead.{IsCutter, IsGoing, AnsweredAs, schema_behind, left_behind, rows_taken, rows_cut, uncut}
use Rattle.fetch_stream.specs.inside.BatchCuts.{Cuts, ReachesFar}
use Rattle.fetch_stream.specs.inside.GivenBatches.{GivesNext, GivesNoneYet}
use Rattle.fetch_stream.specs.inside.Steps.{HasNext, SaysNext, Waits, rows_left}
use Rattle.fetch_stream.specs.inside.WrittenPayloads.{SaysRows}
use Rattle.fetch_stream.proofs.Parts.{slice_none, slice_whole, cuts_join, length_cut}
use Rattle.fetch_stream.proofs.Sizes.{one_row_fits}

-- nothing of a batch is left that was given whole
pub all_cut : BatchSlicesKeepRows → (cutter : Cutter) → IsCutter cutter → cutter.batch.rows ≤ cutter.at → uncut cutter ≡ []
all_cut keep cutter is high =
    let same : cutter.at ≡ cutter.batch.rows = omega (arith, high, is.within) in
    rw same (slice_none keep cutter.batch cutter.batch.rows (omega arith))

-- and all of one that was not begun
pub none_cut : BatchSlicesKeepRows → (batch : BatchAt) (most : ℕ) → uncut (record { batch = batch; at = 0; most = most }) ≡ rows_of batch
none_cut keep batch most = slice_whole keep batch batch.rows refl

pub none_taken : (batch : BatchAt) (most : ℕ) (source : Source) → rows_taken batch source ≡ batch.rows → rows_cut (record { batch = batch; at = 0; most = most }) source ≡ 0
none_taken batch most source all = omega (arith, all)

-- a cutter before the first row of a batch
pub new_cutter : (batch : BatchAt) → list_any (list_any is_long_text) (rows_of batch) ≡ false → IsCutter (record { batch = batch; at = 0; most = 65536 })
new_cutter batch short = record { within = omega arith; some = omega arith; few = omega arith; short = short }

-- ---- how many rows are cut

-- one row is always cut
pub one_fits : BatchSlicesKeepRows → (schema : Schema) (cutter old : Cutter) → cutter ≡ old → IsCutter old → length old.batch.columns ≤ most_columns → (rows : ℕ) → old.at + rows ≤ old.batch.rows → rows ≡ 1
    → dressed_length schema.fields (cut_batch cutter.batch cutter.at (cutter.at + rows)).columns ≤ most_body_bytes
one_fits keep schema cutter old same is few rows within one =
    subst (λ (c : Cutter). dressed_length schema.fields (cut_batch c.batch c.at (c.at + rows)).columns ≤ most_body_bytes) (sym same)
    (one_row_fits keep schema old.batch old.at (old.at + rows) (omega (arith, one)) within few is.short)

pub more_than_one : (rows : ℕ) → 0 < rows → (rows ≡ 1 → ⊥) → 0 < rows / 2
more_than_one zero some not = omega (arith, some)
more_than_one (suc zero) some not = absurd (not refl)
more_than_one (suc (suc n)) some not = omega arith

-- half of too many reach as far as they may
pub half_reaches : (schema : Schema) (cutter old : Cutter) → cutter ≡ old → (rows : ℕ) → 0 < rows → old.at + rows ≤ old.batch.rows
    → most_body_bytes < dressed_length schema.fields (cut_batch cutter.batch cutter.at (cutter.at + rows)).columns → ReachesFar schema old (rows / 2)
half_reaches schema cutter old same rows some within over = inr (
  rows,
  record {
    more = omega (arith, some);
    near = omega arith;
    within = within;
    long = subst (λ (c : Cutter). most_body_bytes < dressed_length schema.fields (cut_batch c.batch c.at (c.at + rows)).columns) same over;
  },
)

-- ---- the next batch

-- none yet: the source is after the same rows
pub keeps_still : (cutter : Cutter) (source new : Source) → IsGoing cutter source → GivesNoneYet source new → Waits cutter source cutter new
keeps_still cutter source new is none = record {
  keeps = record {
    going = record {
      placed = is.placed;
      counted = omega (arith, is.counted, none.counted cutter.batch);
      within = omega (arith, is.within, none.counted cutter.batch);
      behind = none.on.source;
      columns = λ more. subst (λ schema. AnsweredAs schema cutter.batch.columns) (sym none.on.schema) (is.columns more);
    };
    schema = none.on.schema;
  };
  rows = ap (λ (rows : List Row). uncut cutter ++ rows) none.rows;
  same = omega (arith, none.counted cutter.batch);
}

module _ (keep : BatchSlicesKeepRows) (cutter : Cutter) (source new : Source) (is : IsGoing cutter source) (high : cutter.batch.rows ≤ cutter.at) where
  behind : rows_left cutter source ≡ left_behind source
  behind = ap (λ (rows : List Row). rows ++ left_behind source) (all_cut keep cutter is.placed high)

  pub next_batch : (batch : BatchAt) → GivesNext source batch new → HasNext cutter source (record { batch = batch; at = 0; most = 65536 }) new
  next_batch batch gives = record {
    keeps = record {
      going = record {
        placed = new_cutter batch gives.short;
        counted = omega (arith, gives.counted cutter.batch);
        within = gives.within;
        behind = gives.on.source;
        columns = λ some. subst (λ schema. AnsweredAs schema batch.columns) (sym gives.on.schema) gives.columns;
      };
      schema = gives.on.schema;
    };
    rows = ap (λ (rows : List Row). rows ++ left_behind new) (none_cut keep batch 65536) ∙ gives.rows ∙ sym behind;
    same = omega (arith, gives.counted cutter.batch, high);
    more = gives.some;
  }

  -- or it is not there yet
  pub waits : GivesNoneYet source new → Waits cutter source cutter new
  waits none = keeps_still cutter source new is none

-- ---- the next rows

pub says_next : BatchSlicesKeepRows → (cutter : Cutter) (source : Source) (mid_cutter : Cutter) (mid : Source) (parcel : Parcel) (after : Cutter) → HasNext cutter source mid_cutter mid
    → Cuts (schema_behind mid) mid_cutter parcel after → SaysNext cutter source parcel after mid
says_next keep cutter source mid_cutter mid parcel after next cuts =
    let going = next.keeps.going in
    let batch = mid_cutter.batch in
    let at = mid_cutter.at in
    let end = after.at in
    let there : end ≤ batch.rows = subst (λ (b : BatchAt). end ≤ b.rows) cuts.batch cuts.placed.within in
    let cut = cut_batch batch at end in
    let answers : AnsweredAs (schema_behind mid) batch.columns = going.columns next.more in
    let taken : rows_taken after.batch mid ≡ rows_taken batch mid = ap (λ (b : BatchAt). rows_taken b mid) cuts.batch in
    let many : after.batch.rows ≡ batch.rows = ap (λ (b : BatchAt). b.rows) cuts.batch in
    let rest : uncut after ≡ rows_of (cut_batch batch end batch.rows) = ap (λ (b : BatchAt). rows_of (cut_batch b end b.rows)) cuts.batch in
    let join : rows_of cut ++ uncut after ≡ uncut mid_cutter = ap (λ (rows : List Row). rows_of cut ++ rows) rest ∙ cuts_join keep batch at end batch.rows (omega (arith, cuts.forth)) there (omega arith) in
    record {
      given = rows_of cut;
      said = subst (λ schema. SaysRows parcel schema (rows_of cut)) next.keeps.schema cuts.said;
      rows = sym (append_assoc (rows_of cut) (uncut after) (left_behind mid)) ∙ ap (λ (rows : List Row). rows ++ left_behind mid) join ∙ next.rows;
      counted = omega (arith, next.same, going.counted, taken, many, there, cuts.forth, length_cut batch at end);
      some = omega (arith, cuts.forth, length_cut batch at end);
      few = omega (arith, cuts.few, length_cut batch at end);
      fits = cuts.fits;
      keeps = record {
        going = record {
          placed = cuts.placed;
          counted = omega (arith, taken, many, going.counted);
          within = omega (arith, taken, going.within);
          behind = going.behind;
          columns = λ more. subst (λ (b : BatchAt). AnsweredAs (schema_behind mid) b.columns) (sym cuts.batch) answers;
        };
        schema = next.keeps.schema;
      };
    }
