use Rattle.std.proofs.Common.{sym, subst, ◌∙◌, arith}
use Rattle.typed_plan.specs.GroupedRows.{same_key}
use Rattle.first_rows.specs.RowKeys.{key_of}
use Rattle.first_rows.specs.Numbers.{text_number}
use Rattle.grouping.specs.inside.Placing.{IsFirst}
use Rattle.grouping.proofs.Finding.{position_map}
use Rattle.grouping.proofs.JoinedKeys.{done, seen_in, seen_of, step}
use Rattle.grouping.proofs.groups.Grouping.join_each.Goals as goal

pub insert_seen-requires : goal.insert_seen-requires
insert_seen-requires g c =
    let shape = c.args.self.now in
    let other = c.get-other.result in
    let numbers = text_number c.loop-place.firsts.texts in
    let first = subst (IsFirst shape.batches.now shape.keys.now) (sym c.get-other.ensures) (c.requires.others c.loop-place.place other (omega arith)) in
    record {
      seen = seen_of numbers shape.batches.now shape.keys.now other _ first
          (c.turn_to.ensures.stays numbers shape.batches.now shape.keys.now c.loop-place.invariant.seen);
    }

pub loop-place-preserved : goal.loop-place-preserved
loop-place-preserved g c =
    let shape = c.args.self.now in
    let other = c.get-other.result in
    let found = c.in_ok-insert_seen.ensures in
    let first = subst (IsFirst shape.batches.now shape.keys.now) (sym c.get-other.ensures) (c.requires.others c.loop-place.place other (omega arith)) in
    record {
      joining = rw (c.in_ok-push.ensures.items, found.place ∙ sym (position_map key_of (same_key (key_of other)) c.loop-place.firsts.keys), found.inserted)
          (step _ _ _ _ _ other c.loop-place.invariant.joining (omega arith) c.get-other.ensures);
      seen = rw c.turn_to.ensures.number (seen_in (text_number c.insert_seen.new.self.texts) shape.batches.now shape.keys.now other _ first found.seen);
      ready = c.in_ok-tell_piece.ensures.ready;
      watched = g.met.W.Watches.again _ _ _ c.loop-place.invariant.watched c.in_ok-tell_piece.ensures.watched;
    }

pub returns-clause-found : goal.returns-clause-found
returns-clause-found g c = (done _ _ _ _ _ c.loop-place.invariant.joining (omega arith) (omega arith)).0

pub returns-clause-joined : goal.returns-clause-joined
returns-clause-joined g c = (done _ _ _ _ _ c.loop-place.invariant.joining (omega arith) (omega arith)).1

-- who watches ended it
pub returns-in_err-tell_piece-clause-watched : goal.returns-in_err-tell_piece-clause-watched
returns-in_err-tell_piece-clause-watched g c = g.met.W.Watches.again _ _ _ c.loop-place.invariant.watched c.in_err-tell_piece.ensures.watched
