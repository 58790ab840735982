use Rattle.std.proofs.Common.{sym, ap, ◌∙◌, Some}
use Rattle.std.proofs.lemmas.Result.{IfOk-weaker}
use Rattle.first_rows.proofs.Numbering.{text_inserted, text_stays}
use Rattle.first_rows.proofs.texts.TextNumbers.text.Goals as goal

pub returns-in-Ok : goal.returns-in-Ok
returns-in-Ok c =
    let old = c.args.self.now.texts.keys in
    let new = c.insert_full.new.self.keys in
    record {
      stay = record { texts = text_stays old new c.args.text c.in-Ok.ensures.keys; pairs = λ earlier text place h. h };
      is = IfOk-weaker c.short.result _ _ (λ number is. text_inserted old new c.args.text c.in-Ok.place c.in-Ok.ensures.keys c.in-Ok.ensures.index c.in-Ok.ensures.within ∙ ap Some (sym is)) c.short.ensures;
    }
