use Rattle.std.proofs.Common.{◌≡◌, ◌<◌, ◌+◌, ◌⊎◌, ℕ, max, refl, sym, ap, subst, ◌∙◌, inl, inr, arith}
use Rattle.row_sources.specs.PlaceCursor.{IsPlaced, Opens}
use Rattle.row_sources.specs.declared.cursor.Cursor.{Cursor}
use Rattle.row_sources.proofs.Stepping.{opened_few, placed_after, opens}
use Rattle.row_sources.proofs.cursor.Cursor.open.Goals as goal
use Rattle.row_sources.proofs.cursor.Cursor.open.Goals.{Joined-self-max, then-self-max, else-self-max}

pub overflow_add-self : goal.overflow_add-self
overflow_add-self c = omega (arith, opened_few c.args.table.now c.args.self.now c.requires.placed c.requires.more)

-- the part's batch has a row
filled : (c : Joined-self-max) → 0 < c.peek-part.result.batch.now.rows
filled c = omega (arith, c.peek-part.ensures.part.some, c.peek-part.ensures.part.within)

-- the cursor with this batch, this first row of it and this count
abbrev with : Cursor → ℕ → ℕ → ℕ → ℕ → Cursor
with cursor last number start opened =
    record { from = cursor.from; to = cursor.to; at = cursor.start + last; batch = number; start = start; opened = opened; most = cursor.most }

abbrev opening : Cursor → ℕ → Cursor
opening cursor opened = record { from = cursor.from; to = cursor.to; at = cursor.at; batch = cursor.batch; start = cursor.start; opened = opened; most = cursor.most }

-- what holds of a cursor after the part, in the same batch or at the next one, holds of this one
module _ (c : Joined-self-max) (P : Cursor → Type 0)
    (each : (number start opened : ℕ) →
    ((number ≡ c.args.self.now.batch) × (start ≡ c.args.self.now.start) × (c.peek-part.result.to < c.peek-part.result.batch.now.rows))
    ⊎ ((number ≡ c.args.self.now.batch + 1) × (start ≡ c.args.self.now.start + c.peek-part.result.batch.now.rows) × (c.peek-part.result.to ≡ c.peek-part.result.batch.now.rows)) →
    ((c.args.self.now.at ≡ max c.args.self.now.start c.args.self.now.from) × (opened ≡ c.args.self.now.opened + 1))
    ⊎ ((c.args.self.now.at ≡ max c.args.self.now.start c.args.self.now.from → ⊥) × (opened ≡ c.args.self.now.opened)) →
    P (with c.args.self.now c.peek-part.result.to number start opened)) where
  counts : (opened : ℕ) × (c.if-self-max.self ≡ opening c.args.self.now opened)
      × (((c.args.self.now.at ≡ max c.args.self.now.start c.args.self.now.from) × (opened ≡ c.args.self.now.opened + 1))
      ⊎ ((c.args.self.now.at ≡ max c.args.self.now.start c.args.self.now.from → ⊥) × (opened ≡ c.args.self.now.opened)))
  counts = elim c.if-self-max.branch [
    | then-self-max v ↦ (c.args.self.now.opened + 1, v.self-is, inl (v.if-self-max.true ∙ c.max.ensures, refl))
    | else-self-max v ↦ (c.args.self.now.opened, v.self-is, inr ((λ e. v.if-self-max.false (e ∙ sym c.max.ensures)), refl))
  ]

  mid : (c.peek-part.result.to ≡ c.rows-rows.result → ⊥) → P (with c.if-self-max.self c.peek-part.result.to c.if-self-max.self.batch c.if-self-max.self.start c.if-self-max.self.opened)
  mid more =
      subst P (sym (ap (λ (s : Cursor). with s c.peek-part.result.to s.batch s.start s.opened) counts.1))
      (each c.args.self.now.batch c.args.self.now.start counts.0
      (inl (refl, refl, omega (arith, more, c.rows-rows.ensures, c.peek-part.ensures.part.within))) counts.2)

  whole : c.peek-part.result.to ≡ c.rows-rows.result →
      P (with c.if-self-max.self c.peek-part.result.to (c.if-self-max.self.batch + 1) (c.if-self-max.self.start + c.rows-rows.result) c.if-self-max.self.opened)
  whole all =
      subst P (sym (ap (λ (s : Cursor). with s c.peek-part.result.to (s.batch + 1) (s.start + c.rows-rows.result) s.opened) counts.1))
      (each (c.args.self.now.batch + 1) (c.args.self.now.start + c.rows-rows.result) counts.0
      (inr (refl, ap (λ (n : ℕ). c.args.self.now.start + n) c.rows-rows.ensures, all ∙ c.rows-rows.ensures)) counts.2)

pub returns-then-part-rows-clause-placed : goal.returns-then-part-rows-clause-placed
returns-then-part-rows-clause-placed c =
    let at = (goal.at.returns-then-part-rows-clause-placed c).Joined-self-max in
    whole at (IsPlaced c.args.table.now)
    (placed_after c.args.table.now c.args.self.now c.requires.placed c.requires.more c.batches_are_rows.ensures c.peek-part.result.batch.now
    c.peek-part.ensures.next.batch (filled at) c.peek-part.result.to c.peek-part.ensures.next.to) c.if-part-rows.true

pub returns-then-part-rows-clause-opened : goal.returns-then-part-rows-clause-opened
returns-then-part-rows-clause-opened c =
    let at = (goal.at.returns-then-part-rows-clause-opened c).Joined-self-max in
    whole at (Opens c.args.table.now c.args.self.now c.peek-part.result)
    (λ number start opened step counts. opens c.args.table.now c.args.self.now c.requires.placed c.requires.more c.batches_are_rows.ensures c.peek-part.result.batch.now
    c.peek-part.ensures.next.batch (filled at) c.peek-part.result.to c.peek-part.ensures.next.to c.batch_slices_keep_rows.ensures c.peek-part.result refl
    c.peek-part.ensures.next.from refl number start opened) c.if-part-rows.true

pub returns-else-part-rows-clause-placed : goal.returns-else-part-rows-clause-placed
returns-else-part-rows-clause-placed c =
    let at = (goal.at.returns-else-part-rows-clause-placed c).Joined-self-max in
    mid at (IsPlaced c.args.table.now)
    (placed_after c.args.table.now c.args.self.now c.requires.placed c.requires.more c.batches_are_rows.ensures c.peek-part.result.batch.now
    c.peek-part.ensures.next.batch (filled at) c.peek-part.result.to c.peek-part.ensures.next.to) c.if-part-rows.false

pub returns-else-part-rows-clause-opened : goal.returns-else-part-rows-clause-opened
returns-else-part-rows-clause-opened c =
    let at = (goal.at.returns-else-part-rows-clause-opened c).Joined-self-max in
    mid at (Opens c.args.table.now c.args.self.now c.peek-part.result)
    (λ number start opened step counts. opens c.args.table.now c.args.self.now c.requires.placed c.requires.more c.batches_are_rows.ensures c.peek-part.result.batch.now
    c.peek-part.ensures.next.batch (filled at) c.peek-part.result.to c.peek-part.ensures.next.to c.batch_slices_keep_rows.ensures c.peek-part.result refl
    c.peek-part.ensures.next.from refl number start opened) c.if-part-rows.false
