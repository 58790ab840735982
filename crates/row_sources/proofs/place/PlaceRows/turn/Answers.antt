use Rattle.std.proofs.Common.{◌≡◌, [], ◌∙◌, subst, arith}
use Rattle.std.proofs.lemmas.Result.{err_from_is_err_and}
use Rattle.table_versions.specs.StoredTables.{TableAt}
use Rattle.row_sources.specs.Picking.{pick_of}
use Rattle.row_sources.specs.PickedRows.{given_of_part}
use Rattle.row_sources.specs.Running.{GoesOn, FindsPiece, FindsNone, Ends, picked_of}
use Rattle.row_sources.proofs.Piecing.{place_of, none_yet, goes, looked, over, over_is, found, ends_is}
use Rattle.row_sources.proofs.Turns.{has_end}
use Rattle.row_sources.proofs.place.PlaceRows.turn.Goals as goal

pub returns-in_err-choose-clause-found : goal.returns-in_err-choose-clause-found
returns-in_err-choose-clause-found c =
    let p = err_from_is_err_and c.from_residual.result c.from_residual.ensures.1 in
    let is = c.loop-self.invariant in
    let pick = pick_of c.args.picker.now in
    rw (p.1)
    (subst (λ (t : TableAt). GoesOn (picked_of pick (place_of t c.args.self.now.cursor)) (picked_of pick (place_of c.loop-self.self.table c.loop-self.self.cursor))) is.table
    (none_yet pick c.loop-self.self.table c.args.self.now.cursor c.loop-self.self.cursor is.from is.to is.forth is.rows is.placed).on)

-- the rows of the next part are chosen, and none is given
pub returns-then-ends_at_choice-clause-found : goal.returns-then-ends_at_choice-clause-found
returns-then-ends_at_choice-clause-found c =
    let is = c.loop-self.invariant in
    let pick = pick_of c.args.picker.now in (
      subst (λ (t : TableAt). FindsNone (picked_of pick (place_of t c.args.self.now.cursor)) (picked_of pick (place_of c.loop-self.self.table c.loop-self.self.cursor))) is.table
          (none_yet pick c.loop-self.self.table c.args.self.now.cursor c.loop-self.self.cursor is.from is.to is.forth is.rows is.placed),
      (
        has_end c.args.looking.now.patience c.loop-self.looking.patience c.ends_at_choice.result is.endless c.ends_at_choice.ensures.endless c.if-ends_at_choice.true,
        λ no. absurd (no (is.patience (c.ends_at_choice.ensures.choice c.if-ends_at_choice.true))),
      ),
    )

pub returns-in_err-batch-clause-found : goal.returns-in_err-batch-clause-found
returns-in_err-batch-clause-found c =
    let p = err_from_is_err_and c.from_residual-in_err-batch.result c.from_residual-in_err-batch.ensures.1 in
    let is = c.loop-self.invariant in
    let pick = pick_of c.args.picker.now in
    let cursor = c.args.self.now.cursor in
    let after = c.open-part.new.self in
    rw (p.1)
    (subst (λ (t : TableAt). GoesOn (picked_of pick (place_of t cursor)) (picked_of pick (place_of c.loop-self.self.table after))) is.table
    (goes pick c.loop-self.self.table cursor c.loop-self.self.cursor after c.open-part.result is.from is.to is.forth is.rows
    c.open-part.ensures.opened c.open-part.ensures.part c.open-part.ensures.placed))

pub returns-in-Some-clause-found : goal.returns-in-Some-clause-found
returns-in-Some-clause-found c =
    let is = c.loop-self.invariant in
    let pick = pick_of c.args.picker.now in
    let cursor = c.args.self.now.cursor in
    let after = c.open-part.new.self in
    let picked = rw (c.in_ok-batch.was, c.in-Some.is) at c.give.ensures in
    subst (λ (t : TableAt). FindsPiece (picked_of pick (place_of t cursor)) (record { batch = c.in-Some.batch; number = c.loop-self.self.cursor.batch })
    (picked_of pick (place_of c.loop-self.self.table after))) is.table
    (found pick c.loop-self.self.table cursor c.loop-self.self.cursor after c.open-part.result is.from is.to is.forth is.rows
    c.open-part.ensures.opened c.open-part.ensures.part c.open-part.ensures.placed c.in-Some.batch picked)

pub returns-then-is_over-clause-found : goal.returns-then-is_over-clause-found
returns-then-is_over-clause-found c =
    let is = c.loop-self.invariant in
    let pick = pick_of c.args.picker.now in
    let cursor = c.args.self.now.cursor in
    let after = c.open-part.new.self in
    let none : given_of_part pick c.open-part.result ≡ [] = rw (c.in_ok-batch.was, c.in_default.is) at c.give.ensures in (
      subst (λ (t : TableAt). FindsNone (picked_of pick (place_of t cursor)) (picked_of pick (place_of c.loop-self.self.table after))) is.table
          (over_is pick c.loop-self.self.table cursor c.loop-self.self.cursor after c.open-part.result is.from is.to is.forth is.rows
          c.open-part.ensures.opened c.open-part.ensures.part c.open-part.ensures.placed none),
      (
        has_end c.args.looking.now.patience c.spend.new.self.patience c.is_over.result (λ e. c.spend.ensures.endless (is.endless e)) c.is_over.ensures.endless c.if-is_over.true,
        λ _. looked pick c.loop-self.self.table cursor c.loop-self.self.cursor after c.open-part.result is.from is.to is.forth is.rows
            c.open-part.ensures.opened c.open-part.ensures.part c.open-part.ensures.placed,
      ),
    )

pub loop-self-preserved : goal.loop-self-preserved
loop-self-preserved c =
    let is = c.loop-self.invariant in
    let pick = pick_of c.args.picker.now in
    let cursor = c.args.self.now.cursor in
    let opens = c.open-part.ensures.opened in
    let none : given_of_part pick c.open-part.result ≡ [] = rw (c.in_ok-batch.was, c.in_default.is) at c.give.ensures in
    record {
      placed = c.open-part.ensures.placed;
      choice = λ no part next. cc;
      table = is.table;
      from = opens.from ∙ is.from;
      to = opens.to ∙ is.to;
      forth = omega (arith, opens.forth, is.forth);
      rows = over pick c.loop-self.self.table cursor c.loop-self.self.cursor c.open-part.new.self c.open-part.result is.from is.to is.forth is.rows
          opens c.open-part.ensures.part c.open-part.ensures.placed none;
      endless = λ e. c.spend.ensures.endless (is.endless e);
      patience = λ e. is.patience (c.spend.ensures.choice e);
    }

pub returns-clause-found : goal.returns-clause-found
returns-clause-found c =
    let is = c.loop-self.invariant in
    let pick = pick_of c.args.picker.now in
    subst (λ (t : TableAt). Ends (picked_of pick (place_of t c.args.self.now.cursor)) (picked_of pick (place_of c.loop-self.self.table c.loop-self.self.cursor))) is.table
    (ends_is pick c.loop-self.self.table c.args.self.now.cursor c.loop-self.self.cursor is.from is.to is.forth is.rows is.placed c.loop-self-test.false)
