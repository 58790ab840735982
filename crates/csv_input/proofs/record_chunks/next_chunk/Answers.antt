use Rattle.std.proofs.Common.{◌≡◌, ◌∷◌, [], ◌++◌, List, ℕ, length, refl, sym, ap, ◌∙◌, arith}
use Rattle.csv.specs.Records.{fields_of}
use Rattle.csv_input.specs.Rows.{IsRight}
use Rattle.csv_input.specs.inside.Chunks.{ChunkAt}
use Rattle.csv_input.proofs.Faulty.{right_at, right_none, right_rest, splits_more}
use Rattle.csv_input.proofs.Taken.{all_taken, more_held, none_held, none_in}
use Rattle.csv_input.proofs.record_chunks.next_chunk.Goals as goal

pub loop-fields-init : goal.loop-fields-init
loop-fields-init c = record {
  taken = [];
  splits = refl;
  holds = none_held _ _ c.new-chunk.ensures;
  wide = ap (λ (k : ChunkAt). k.width) c.new-chunk.ensures;
  room = omega (arith, ap (λ (k : ChunkAt). k.rows) c.new-chunk.ensures);
}

pub push-requires-clause-long : goal.push-requires-clause-long
push-requires-clause-long c =
    let inv = c.loop-fields.invariant in
    let columns = c.args.columns.now in
    let fields = fields_of c.next.new.fields in
    let rest = c.next.new.self in
    let took : c.loop-fields.records ≡ fields ∷ rest = rw c.if-branch.true at c.in_ok-next.ensures in
    let right : IsRight columns fields = right_at columns _ inv.taken fields _ rest inv.splits took c.requires in
    right.long ∙ sym inv.wide

pub loop-fields-preserved : goal.loop-fields-preserved
loop-fields-preserved c =
    let inv = c.loop-fields.invariant in
    let columns = c.args.columns.now in
    let fields = fields_of c.next.new.fields in
    let rest = c.next.new.self in
    let took : c.loop-fields.records ≡ fields ∷ rest = rw c.if-branch.true at c.in_ok-next.ensures in
    let right : IsRight columns fields = right_at columns _ inv.taken fields _ rest inv.splits took c.requires in
    let pushed = c.in_ok-push.ensures in
    record {
      taken = inv.taken ++ fields ∷ [];
      splits = splits_more _ inv.taken fields _ rest inv.splits took;
      holds = more_held _ _ inv.taken fields pushed (right.long ∙ sym inv.wide) inv.holds;
      wide = ap (λ (k : ChunkAt). k.width) pushed ∙ inv.wide;
      room = c.is_full.ensures c.if-is_full.false;
    }

pub returns-then-is_full-clause-taken : goal.returns-then-is_full-clause-taken
returns-then-is_full-clause-taken c =
    let inv = c.loop-fields.invariant in
    let columns = c.args.columns.now in
    let fields = fields_of c.next.new.fields in
    let rest = c.next.new.self in
    let took : c.loop-fields.records ≡ fields ∷ rest = rw c.if-branch.true at c.in_ok-next.ensures in
    let right : IsRight columns fields = right_at columns _ inv.taken fields _ rest inv.splits took c.requires in
    let pushed = c.in_ok-push.ensures in
    record {
      taken = inv.taken ++ fields ∷ [];
      splits = splits_more _ inv.taken fields _ rest inv.splits took;
      holds = more_held _ _ inv.taken fields pushed (right.long ∙ sym inv.wide) inv.holds;
      wide = ap (λ (k : ChunkAt). k.width) pushed ∙ inv.wide;
      none = λ few. absurd (omega (arith, few, ap (λ (k : ChunkAt). k.rows) pushed));
    }

pub returns-clause-taken : goal.returns-clause-taken
returns-clause-taken c =
    let inv = c.loop-fields.invariant in
    let none : c.loop-fields.records ≡ [] = rw c.if-branch.false at c.in_ok-next.ensures in
    all_taken c.args.columns.now _ _ inv.taken _ _ inv.splits none (c.new.ensures ∙ none_in) inv.holds inv.wide

pub returns-in_err-next-clause-right : goal.returns-in_err-next-clause-right
returns-in_err-next-clause-right c = right_none c.args.columns.now _ c.in_err-next.ensures

pub returns-in_err-push-clause-right : goal.returns-in_err-push-clause-right
returns-in_err-push-clause-right c =
    let inv = c.loop-fields.invariant in
    let fields = fields_of c.next.new.fields in
    let rest = c.next.new.self in
    let took : c.loop-fields.records ≡ fields ∷ rest = rw c.if-branch.true at c.in_ok-next.ensures in
    right_rest c.args.columns.now _ (inv.taken ++ fields ∷ []) rest (splits_more _ inv.taken fields _ rest inv.splits took) c.requires

pub returns-then-is_full-clause-right : goal.returns-then-is_full-clause-right
returns-then-is_full-clause-right c =
    let inv = c.loop-fields.invariant in
    let fields = fields_of c.next.new.fields in
    let rest = c.next.new.self in
    let took : c.loop-fields.records ≡ fields ∷ rest = rw c.if-branch.true at c.in_ok-next.ensures in
    right_rest c.args.columns.now _ (inv.taken ++ fields ∷ []) rest (splits_more _ inv.taken fields _ rest inv.splits took) c.requires

pub returns-clause-right : goal.returns-clause-right
returns-clause-right c = right_none c.args.columns.now _ (c.new.ensures ∙ none_in)
