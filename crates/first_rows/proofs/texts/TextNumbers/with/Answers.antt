use Rattle.std.proofs.lemmas.Result.{IfOk-weaker}
use Rattle.first_rows.proofs.Numbering.{behind_none, behind_pair, pair_inserted, pair_stays, stay_self}
use Rattle.first_rows.proofs.texts.TextNumbers.with.Goals as goal

pub returns-then-before-eq0 : goal.returns-then-before-eq0
returns-then-before-eq0 c =
    record {
      stay = stay_self c.args.self.now;
      is = IfOk-weaker c.next.result _ _ (λ number is. behind_none c.args.self.now.pairs.keys c.args.before c.args.text number c.if-before-eq0.true is) c.next.ensures;
    }

pub returns-in-Ok : goal.returns-in-Ok
returns-in-Ok c =
    let old = c.args.self.now.pairs.keys in
    let new = c.insert_full.new.self.keys in
    let pair = pair_inserted old new c.args.before c.args.text c.in-Ok.place c.in-Ok.ensures.keys c.in-Ok.ensures.index c.in-Ok.ensures.within in
    record {
      stay = record { texts = λ value number h. h; pairs = pair_stays old new (c.args.before, c.args.text) c.in-Ok.ensures.keys };
      is = IfOk-weaker c.next-in-Ok.result _ _ (λ number is. behind_pair new c.args.before c.args.text number c.if-before-eq0.false (c.in-Ok.place, pair, is)) c.next-in-Ok.ensures;
    }
