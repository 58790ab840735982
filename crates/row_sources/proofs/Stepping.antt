-- A cursor's steps over the batches of a table.
use Rattle.std.proofs.Common.{◌≡◌, ◌≤◌, ◌<◌, ℕ, ◌+◌, ◌-◌, List, length, max, min, slice_get, Some, None, refl, sym, ap, ◌∙◌, ◌⊎◌, inl, inr, arith}
use Rattle.std.specs.List.{flat_map, last_or, range_with_len}
use Rattle.std.proofs.lemmas.Bool.{cases_eq, cases_lt}
use Rattle.std.proofs.lemmas.List.{take_all}
use Rattle.arrays.specs.Batch.{BatchAt, rows_of, cut_batch, BatchSlicesKeepRows}
use Rattle.arrays.specs.TypedLayouts.{AreOf}
use Rattle.typed_plan.specs.TypedPlans.{types_of}
use Rattle.scan_base.specs.Limits.{most_rows}
use Rattle.table_versions.specs.StoredTables.{TableAt, table_of}
use Rattle.table_versions.specs.Standing.{rows_before, BatchesAreRows}
use Rattle.typed_plan.specs.JoinedRows.{rows_between}
use Rattle.row_sources.specs.declared.cursor.Cursor.{Cursor}
use Rattle.row_sources.specs.declared.batch_slice.BatchSlice.{BatchSlice}
use Rattle.array_select.specs.Room.{most_batch_rows}
use Rattle.batch_skipping.specs.Narrow.{BeginsInFirst}
use Rattle.batch_skipping.specs.OpenedBatches.{batches_in}
use Rattle.row_sources.specs.PlaceCursor.{IsPlaced, IsBatchSlice, Opens}
use Rattle.row_sources.proofs.Batched.{rows_next}
use Rattle.row_sources.proofs.Opening.{in_all, in_few, none_in, opens_one, opens_last}

module _ (table : TableAt) (cursor : Cursor) (is : IsPlaced table cursor) (more : cursor.at < cursor.to) where
  -- its batch is there
  pub batch_there : cursor.batch < length table.batches
  batch_there = by (cases_lt cursor.batch (length table.batches))
    where
      by : (cursor.batch < length table.batches) ⊎ (length table.batches ≤ cursor.batch) → cursor.batch < length table.batches
      by (inl there) = there
      by (inr past) =
          let all = ap (λ (some : List BatchAt). length (flat_map rows_of some)) (take_all cursor.batch table.batches past) in
          let end = is.few more in
          absurd (omega (arith, all, is.start, end, is.behind more, more))

  -- it begins no later than the next row
  pub behind : cursor.start ≤ cursor.at
  behind = is.behind more

  -- fewer batches were opened than there are rows before the range's end
  pub opened_few : cursor.opened < cursor.to
  opened_few = omega (arith, is.opened, in_few cursor.from cursor.at table.batches, more)

  module _ (standing : BatchesAreRows) (batch : BatchAt) (there : slice_get table.batches cursor.batch ≡ Some batch) (some : 0 < batch.rows) where
    next : rows_before table.batches (cursor.batch + 1) ≡ cursor.start + batch.rows
    next = let e = ((standing table).1 cursor.batch batch there).next in omega (arith, e, is.start)

    -- the next row is one of its rows
    high : cursor.at < cursor.start + batch.rows
    high = by (is.within more)
      where
        by : (cursor.at ≡ cursor.start) ⊎ (cursor.at < rows_before table.batches (cursor.batch + 1)) → cursor.at < cursor.start + batch.rows
        by (inl e) = omega (arith, e, some)
        by (inr h) = omega (arith, h, next)

    -- it ends within the table
    pub ends : cursor.start + batch.rows ≤ length (table_of table).rows
    ends = let all = in_all table.batches (cursor.batch + 1) (omega (arith, batch_there)) in omega (arith, all, next)

    -- the first of its rows that is in the range, and the batches that are opened with it
    abbrev first_in : ℕ
    first_in = max cursor.start cursor.from

    module _ (last : ℕ) (l : last ≡ min (min batch.rows (cursor.to - cursor.start)) (cursor.at - cursor.start + cursor.most)) where
      pub forth : cursor.at < cursor.start + last
      forth = omega (arith, l, high, more, behind, is.looks)

      within_batch : last ≤ batch.rows
      within_batch = omega (arith, l)

      opened_by : (at : ℕ) → first_in < at → at ≤ cursor.start + batch.rows →
          length (batches_in cursor.from at table.batches) ≡ length (batches_in cursor.from first_in table.batches) + 1
      opened_by at past few =
          opens_one cursor.from first_in at table.batches cursor.batch batch_there (omega arith) (omega (arith, is.start)) past
          (omega (arith, next, few)) (omega (arith, is.start))

      first_past : first_in < cursor.start + last
      first_past = omega (arith, forth, behind, is.begun)

      pub latest_is : last_or None (batches_in cursor.from (cursor.start + last) table.batches) ≡ Some cursor.batch
      latest_is =
          opens_last cursor.from first_in (cursor.start + last) table.batches cursor.batch batch_there (omega arith) (omega (arith, is.start)) first_past
          (omega (arith, next, within_batch)) (omega (arith, is.start))

      -- where the cursor stands then, and how many batches were opened
      abbrev pub Steps : ℕ → ℕ → Type 0
      Steps number start = ((number ≡ cursor.batch) × (start ≡ cursor.start) × (last < batch.rows))
          ⊎ ((number ≡ cursor.batch + 1) × (start ≡ cursor.start + batch.rows) × (last ≡ batch.rows))

      abbrev pub Counts : ℕ → Type 0
      Counts opened = ((cursor.at ≡ first_in) × (opened ≡ cursor.opened + 1)) ⊎ ((cursor.at ≡ first_in → ⊥) × (opened ≡ cursor.opened))

      abbrev pub after : ℕ → ℕ → ℕ → Cursor
      after number start opened = record {
        from = cursor.from;
        to = cursor.to;
        at = cursor.start + last;
        batch = number;
        start = start;
        opened = opened;
        most = cursor.most;
      }

      counted : (opened : ℕ) → Counts opened → opened ≡ length (batches_in cursor.from (cursor.start + last) table.batches)
      counted opened (inl first) =
          let one = opened_by (cursor.start + last) first_past (omega (arith, within_batch)) in
          let same = ap (λ (n : ℕ). length (batches_in cursor.from n table.batches)) first.0 in
          omega (arith, first.1, is.opened, same, one)
      counted opened (inr later) =
          let past : first_in < cursor.at = other (cases_eq cursor.at first_in) in
          let one = opened_by (cursor.start + last) first_past (omega (arith, within_batch)) in
          let same = opened_by cursor.at past (omega (arith, high)) in
          omega (arith, later.1, is.opened, same, one)
        where
          other : (cursor.at ≡ first_in) ⊎ (cursor.at ≡ first_in → ⊥) → first_in < cursor.at
          other (inl e) = absurd (later.0 e)
          other (inr ne) = omega (arith, ne, behind, is.begun)

      -- one was opened
      begun : (opened : ℕ) → Counts opened → opened ≡ 0 → ⊥
      begun opened (inl first) none = omega (arith, first.1, none)
      begun opened (inr later) none =
          let fresh = is.fresh (omega (arith, later.1, none)) in
          later.0 (omega (arith, fresh, behind))

      pub placed_after : (number start opened : ℕ) → Steps number start → Counts opened → IsPlaced table (after number start opened)
      placed_after number start opened (inl mid) counts = record {
        begun = omega (arith, forth, is.begun);
        ordered = omega (arith, l, behind, more);
        few = λ _. is.few more;
        start = omega (arith, mid.1, is.start) ∙ ap (rows_before table.batches) (sym mid.0);
        behind = λ _. omega (arith, mid.1);
        within = λ _. inr (rw mid.0 (omega (arith, next, mid.2)));
        filled = omega (arith, mid.0, mid.1, is.filled);
        opened = counted opened counts;
        fresh = λ none. absurd (begun opened counts none);
        each = is.each;
        looks = is.looks;
        bounded = is.bounded;
      }
      placed_after number start opened (inr whole) counts = record {
        begun = omega (arith, forth, is.begun);
        ordered = omega (arith, l, behind, more);
        few = λ _. is.few more;
        start = omega (arith, whole.1, next) ∙ ap (rows_before table.batches) (sym whole.0);
        behind = λ _. omega (arith, whole.1, whole.2);
        within = λ _. inl (omega (arith, whole.1, whole.2));
        filled = omega (arith, whole.0, whole.1, is.filled, some);
        opened = counted opened counts;
        fresh = λ none. absurd (begun opened counts none);
        each = is.each;
        looks = is.looks;
        bounded = is.bounded;
      }

      part_rows : BatchSlicesKeepRows → rows_of (cut_batch batch (cursor.at - cursor.start) last) ≡ rows_between (cursor.at - cursor.start) last (rows_of batch)
      part_rows keep = keep batch (cursor.at - cursor.start) last (omega (arith, forth)) within_batch

      pub opens : BatchSlicesKeepRows → (part : BatchSlice) → part.batch.now ≡ batch → part.from ≡ cursor.at - cursor.start → part.to ≡ last →
          (number start opened : ℕ) → Opens table cursor part (after number start opened)
      opens keep part b f t number start opened = record {
        from = refl;
        to = refl;
        most = refl;
        forth = forth;
        rows =
            rows_next cursor.at cursor.to cursor.start cursor.batch table.batches batch there batch_there is.start behind high cursor.most last l more
            (rows_of (cut_batch part.batch.now part.from part.to))
            (rw (b, f, t) (part_rows keep));
        latest = latest_is;
      }

      pub is_part : (part : BatchSlice) → length (table_of table).rows ≤ most_rows → length batch.columns ≡ length table.schema.fields → AreOf (types_of table.schema.fields) batch.columns →
          part.batch.now ≡ batch → part.from ≡ cursor.at - cursor.start → part.to ≡ last → IsBatchSlice table part
      is_part part few wide typed b f t =
          let low : part.from < part.to = omega (arith, f, t, forth, behind) in
          record {
            some = low;
            within = rw b (omega (arith, t, within_batch));
            short = omega (arith, f, t, l, is.bounded);
            few = rw b (omega (arith, ends, few));
            wide = rw b wide;
            typed = rw b typed;
          }

-- before the first row of a range
pub placed_first : (table : TableAt) (from to : ℕ) → from ≤ to → (from < to → to ≤ length (table_of table).rows) → BeginsInFirst from table.batches →
    batches_in from to table.batches ≡ range_with_len 0 (length table.batches) →
    IsPlaced table (record { from = from; to = to; at = from; batch = 0; start = 0; opened = 0; most = most_batch_rows })
placed_first table from to ordered few first each = record {
  begun = omega arith;
  ordered = ordered;
  few = few;
  start = refl;
  behind = λ _. omega arith;
  within = λ _. first;
  filled = omega arith;
  opened = ap length (sym (none_in from from table.batches (omega arith)));
  fresh = λ _. refl;
  each = each;
  looks = omega arith;
  bounded = omega arith;
}
