use Rattle.std.proofs.Common.{ap, sym, ◌∙◌}
use Rattle.first_rows.specs.Numbers.{text_number}
use Rattle.first_rows.proofs.Numbering.{seen_stays, stay_self}
use Rattle.first_rows.proofs.texts.TextNumbers.seen.Goals as goal

pub returns-in-Some : goal.returns-in-Some
returns-in-Some c =
    let numbers = text_number c.args.self.now.texts.keys in
    record {
      stay = stay_self c.args.self.now;
      seen = c.requires.seen;
      is = ap numbers c.requires.text ∙ c.in-Some.ensures numbers c.requires.seen;
    }

pub returns-in_err-number-clause-seen : goal.returns-in_err-number-clause-seen
returns-in_err-number-clause-seen c =
    let old = text_number c.args.self.now.texts.keys in
    let new = text_number c.text.new.self.texts.keys in
    let at = c.args.at.now in
    seen_stays old new at.batch.now at.columns.now _ c.text.ensures.stay.texts c.requires.seen

pub returns : goal.returns
returns c =
    let old = text_number c.args.self.now.texts.keys in
    let new = text_number c.text.new.self.texts.keys in
    let at = c.args.at.now in
    record {
      stay = c.text.ensures.stay;
      seen = c.keep.ensures new (ap new (sym c.requires.text) ∙ c.in_ok-number.ensures.is) (seen_stays old new at.batch.now at.columns.now _ c.text.ensures.stay.texts c.requires.seen);
      is = c.in_ok-number.ensures.is;
    }
