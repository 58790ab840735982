use Rattle.std.proofs.Common.{◌≡◌, ◌<◌, ◌+◌, ◌-◌, ℕ, Bor, length, map, min, ap, sym, ◌∙◌, subst, refl, arith, slice_get, Option}
use Rattle.arrays.specs.Batch.{BatchAt}
use Rattle.scan_base.specs.declared.predicate.Predicate.{Predicate}
use Rattle.scan_base.specs.View.{pred_of}
use Rattle.table_versions.specs.StoredTables.{table_of}
use Rattle.batch_skipping.specs.declared.opened_batches.OpenedList.{OpenedList}
use Rattle.batch_skipping.specs.OpenedBatches.{given_columns}
use Rattle.batch_skipping.specs.inside.JudgedBatches.{all_can, columns_of}
use Rattle.batch_skipping.proofs.Found.{found_batch}
use Rattle.batch_skipping.proofs.SoFar.{IsSoFar, begun, nothing, fits, passed, listed, all_listed, unread, none_read, one_read, all_read}
use Rattle.batch_skipping.proofs.opened_batches.place_list.Goals.{then-can_hold+in_ok-push, else-can_hold}
use Rattle.batch_skipping.proofs.opened_batches.place_list.Goals as goal

pub returns-then-from-end-clause-numbers : goal.returns-then-from-end-clause-numbers
returns-then-from-end-clause-numbers g c =
    let read = c.args.read.now in
    let place = c.args.filter.now.place in
    c.new.ensures.items
    ∙ nothing (map (λ (part : Bor (Predicate ℕ)). pred_of part.now) c.args.filter.now.parts.items) place.first place.columns.now read.from read.to read.table.now
    (omega (arith, c.min-end.ensures, c.rows.ensures.rows, c.if-from-end.true))

-- no row is read
pub returns-then-from-end-clause-watched : goal.returns-then-from-end-clause-watched
returns-then-from-end-clause-watched g c = g.met.W.Watches.unasked _

pub returns-then-from-end-clause-told : goal.returns-then-from-end-clause-told
returns-then-from-end-clause-told g c =
    let read = c.args.read.now in
    let place = c.args.filter.now.place in
    let none = none_read (map (λ (part : Bor (Predicate ℕ)). pred_of part.now) c.args.filter.now.parts.items) place.first place.columns.now read.from read.to read.table.now
    (omega (arith, c.min-end.ensures, c.rows.ensures.rows, c.if-from-end.true)) in
    (0, omega (arith, none), g.met.W.Watches.untold _)

pub loop-place-init : goal.loop-place-init
loop-place-init g c =
    let read = c.args.read.now in
    let place = c.args.filter.now.place in
    let at = c.batch_of-place in
    let none = unread (map (λ (part : Bor (Predicate ℕ)). pred_of part.now) c.args.filter.now.parts.items) place.first place.columns.now read.from read.to read.table.now
    at.result.index (omega (arith, at.ensures.start, at.ensures.behind)) in
    record {
      so_far = begun (map (λ (part : Bor (Predicate ℕ)). pred_of part.now) c.args.filter.now.parts.items) place.first place.columns.now read.from read.to read.table.now
          at.result.index at.result.start _ c.new.ensures.items refl refl refl at.ensures.start at.ensures.behind at.ensures.before at.ensures.filled (omega (arith, at.ensures.there));
      ready = c.requires.ready;
      watched = g.met.W.Watches.unasked _;
      told = (0, omega (arith, none), g.met.W.Watches.untold _);
    }

pub push-requires-clause-rows : goal.push-requires-clause-rows
push-requires-clause-rows g c =
    let read = c.args.read.now in
    let place = c.args.filter.now.place in
    let at = c.loop-place.place in
    let one = found_batch (slice_get read.table.now.batches at.index) c.batch_rows-rows.result c.batch_rows-rows.ensures.rows in
    let filled : 0 < one.0.rows = omega (arith, one.2, c.batch_rows-rows.ensures.filled) in
    let most = fits (map (λ (part : Bor (Predicate ℕ)). pred_of part.now) c.args.filter.now.parts.items) place.first place.columns.now read.from read.to read.table.now
    c.batches_are_rows.ensures at.index at.start c.min-end.result c.loop-place.list c.loop-place.invariant.so_far
    (c.min-end.ensures ∙ ap (λ (n : ℕ). min read.to n) c.rows.ensures.rows) one.0 one.1 filled
    (omega (arith, c.if-from-end.false)) c.loop-place-test.true in
    omega (arith, most, one.2, c.loop-place.invariant.so_far.few, c.rows.ensures.rows, c.rows.ensures.few)

pub overflow_add-place : goal.overflow_add-place
overflow_add-place g c =
    let read = c.args.read.now in
    let place = c.args.filter.now.place in
    let at = c.loop-place.place in
    let one = found_batch (slice_get read.table.now.batches at.index) c.batch_rows-rows.result c.batch_rows-rows.ensures.rows in
    let filled : 0 < one.0.rows = omega (arith, one.2, c.batch_rows-rows.ensures.filled) in
    let most = fits (map (λ (part : Bor (Predicate ℕ)). pred_of part.now) c.args.filter.now.parts.items) place.first place.columns.now read.from read.to read.table.now
    c.batches_are_rows.ensures at.index at.start c.min-end.result c.loop-place.list c.loop-place.invariant.so_far
    (c.min-end.ensures ∙ ap (λ (n : ℕ). min read.to n) c.rows.ensures.rows) one.0 one.1 filled
    (omega (arith, c.if-from-end.false)) c.loop-place-test.true in
    omega (arith, most, one.2, c.rows.ensures.rows, c.rows.ensures.few)

pub loop-place-preserved : goal.loop-place-preserved
loop-place-preserved g c =
    let is = c.loop-place.invariant in
    let read = c.args.read.now in
    let place = c.args.filter.now.place in
    let parts = map (λ (part : Bor (Predicate ℕ)). pred_of part.now) c.args.filter.now.parts.items in
    let table = read.table.now in
    let at = c.loop-place.place in
    let one = found_batch (slice_get read.table.now.batches at.index) c.batch_rows-rows.result c.batch_rows-rows.ensures.rows in
    let filled : 0 < one.0.rows = omega (arith, one.2, c.batch_rows-rows.ensures.filled) in
    let can = c.can_hold.ensures ∙ ap (λ (found : Option BatchAt). all_can parts place.first (given_columns place.columns.now (columns_of found))) one.1 in
    let last : c.min-end.result ≡ min read.to (length (table_of table).rows) = c.min-end.ensures ∙ ap (λ (n : ℕ). min read.to n) c.rows.ensures.rows in
    let before : read.from < c.min-end.result = omega (arith, c.if-from-end.false) in
    let more = one_read parts place.first place.columns.now read.from read.to table c.batches_are_rows.ensures at.index at.start c.min-end.result c.loop-place.list
    is.so_far last one.0 one.1 filled before c.loop-place-test.true in
    record {
      so_far = subst (λ (n : ℕ). IsSoFar parts place.first place.columns.now read.from read.to table (at.index + 1) (at.start + n) c.if-can_hold.list) one.2
          (elim c.if-can_hold.branch [
            | then-can_hold+in_ok-push w ↦
                subst (λ (list : OpenedList). IsSoFar parts place.first place.columns.now read.from read.to table (at.index + 1) (at.start + one.0.rows) list) (sym w.list-is)
                (listed parts place.first place.columns.now read.from read.to table c.batches_are_rows.ensures at.index at.start c.min-end.result c.loop-place.list
                is.so_far last one.0 one.1 filled before c.loop-place-test.true c.can_hold.result can
                w.if-can_hold.true w.push.new.self w.in_ok-push.ensures.numbers
                (w.in_ok-push.ensures.rows ∙ ap (λ (n : ℕ). c.loop-place.list.rows + n) (sym one.2)) w.in_ok-push.ensures.from
                (w.in_ok-push.ensures.to ∙ ap (λ (n : ℕ). c.loop-place.list.to + min n (c.min-end.result - at.start)) (sym one.2)))
            | else-can_hold w ↦
                subst (λ (list : OpenedList). IsSoFar parts place.first place.columns.now read.from read.to table (at.index + 1) (at.start + one.0.rows) list) (sym w.list-is)
                (passed parts place.first place.columns.now read.from read.to table c.batches_are_rows.ensures at.index at.start c.min-end.result c.loop-place.list
                is.so_far last one.0 one.1 filled before c.loop-place-test.true c.can_hold.result can
                w.if-can_hold.false)
          ]);
      ready = c.in_ok-tell.ensures.ready;
      watched = g.met.W.Watches.again _ _ _ is.watched c.in_ok-tell.ensures.watched;
      told = (_, omega (arith, more, is.told.1, c.requires.weight), g.met.W.Watches.told_again _ _ _ _ _ is.told.2 c.in_ok-tell.ensures.told);
    }

-- who watches ended it
pub returns-in_err-tell-clause-watched : goal.returns-in_err-tell-clause-watched
returns-in_err-tell-clause-watched g c = g.met.W.Watches.again _ _ _ c.loop-place.invariant.watched c.in_err-tell.ensures.watched

pub returns-clause-numbers : goal.returns-clause-numbers
returns-clause-numbers g c =
    let read = c.args.read.now in
    let place = c.args.filter.now.place in
    (all_listed (map (λ (part : Bor (Predicate ℕ)). pred_of part.now) c.args.filter.now.parts.items) place.first place.columns.now read.from read.to read.table.now
    c.batches_are_rows.ensures c.loop-place.place.index c.loop-place.place.start c.min-end.result c.loop-place.list c.loop-place.invariant.so_far
    (c.min-end.ensures ∙ ap (λ (n : ℕ). min read.to n) c.rows.ensures.rows) (omega (arith, c.loop-place-test.false))
    (omega (arith, c.rows.ensures.rows, c.rows.ensures.few))).0

pub returns-clause-list : goal.returns-clause-list
returns-clause-list g c =
    let read = c.args.read.now in
    let place = c.args.filter.now.place in
    (all_listed (map (λ (part : Bor (Predicate ℕ)). pred_of part.now) c.args.filter.now.parts.items) place.first place.columns.now read.from read.to read.table.now
    c.batches_are_rows.ensures c.loop-place.place.index c.loop-place.place.start c.min-end.result c.loop-place.list c.loop-place.invariant.so_far
    (c.min-end.ensures ∙ ap (λ (n : ℕ). min read.to n) c.rows.ensures.rows) (omega (arith, c.loop-place-test.false))
    (omega (arith, c.rows.ensures.rows, c.rows.ensures.few))).1

pub returns-clause-told : goal.returns-clause-told
returns-clause-told g c =
    let is = c.loop-place.invariant in
    let read = c.args.read.now in
    let place = c.args.filter.now.place in
    let all = all_read (map (λ (part : Bor (Predicate ℕ)). pred_of part.now) c.args.filter.now.parts.items) place.first place.columns.now read.from read.to read.table.now
    c.batches_are_rows.ensures c.loop-place.place.index c.loop-place.place.start c.min-end.result c.loop-place.list is.so_far
    (c.min-end.ensures ∙ ap (λ (n : ℕ). min read.to n) c.rows.ensures.rows) (omega (arith, c.loop-place-test.false)) in
    (is.told.0, omega (arith, all, is.told.1), is.told.2)
