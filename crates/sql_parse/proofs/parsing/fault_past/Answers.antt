use Rattle.std.proofs.Common.{◌≡◌, Ok, Err, subst, sym, ◌∙◌}
use Rattle.sql_parse.specs.declared.refusal.Refusal.{Refusal}
use Rattle.sql_parse.specs.declared.refusal.Refusal.TheVariants as refusal
use Rattle.sql_parse.specs.Parse.{Refuses}
use Rattle.sql_query.specs.Sentence.{sentence_of}
use Rattle.sql_parse.proofs.Told.{Told}
use Rattle.sql_parse.specs.Tokens.{marks}
use Rattle.sql_parse.proofs.Answering.{told_by, cut_at, read_past, deep_past, offends_past}
use Rattle.sql_parse.proofs.parsing.fault_past.Goals.{in-Err-Offends, in-Err-OutOfMemory, in-Err-TooDeep, in-Ok}
use Rattle.sql_parse.proofs.parsing.fault_past.Goals as goal

pub overflow_sub-front : goal.overflow_sub-front
overflow_sub-front c =
    let e : c.in-Err-Offends.field-0 ≡ refusal.Offends c.in-Err-Offends.left = c.in-Err-Offends.field-0-is in
    let t = told_by sentence_of (marks c.split_at.result.0.now) (Err c.in-Err-Offends.field-0)
    c.in-Err-Offends.ensures.exact in
    (cut_at c.split_at.result.0.now c.in-Err-Offends.left
    (subst (λ (r : Refusal). Told sentence_of (marks c.split_at.result.0.now) (Err r)) e t)).2

pub returns : goal.returns
returns c = elim c.match-whole_query.branch [
  | in-Err-Offends w ↦ λ ne.
      let e : w.in-Err-Offends.field-0 ≡ refusal.Offends w.in-Err-Offends.left = w.in-Err-Offends.field-0-is in
      let t = told_by sentence_of (marks c.split_at.result.0.now) (Err w.in-Err-Offends.field-0)
      w.in-Err-Offends.ensures.exact in
      let f = rw (w.split_at-in-Err-Offends.ensures.back, c.split_at.ensures.front) at (w.result-is ∙ w.fault_or.ensures) in
      offends_past c.args.tokens.now c.args.past w.in-Err-Offends.left c.args.end c.match-whole_query.result c.requires
      (rw c.split_at.ensures.front at
      (subst (λ (r : Refusal). Told sentence_of (marks c.split_at.result.0.now) (Err r)) e t)) f
  | in-Err-OutOfMemory w ↦ λ ne. absurd (ne w.result-is)
  | in-Ok w ↦ λ ne.
      let t = told_by sentence_of (marks c.split_at.result.0.now) (Ok w.in-Ok.field-0) w.in-Ok.ensures.exact in
      let front = rw c.split_at.ensures.front at t.0 in
      subst (Refuses (marks c.args.tokens.now) c.args.end) (sym w.result-is)
      (read_past c.args.tokens.now c.args.past c.args.end (sentence_of w.in-Ok.field-0) c.requires front)
  | in-Err-TooDeep w ↦ λ ne.
      let e : w.in-Err-TooDeep.field-0 ≡ refusal.TooDeep = w.in-Err-TooDeep.field-0-is in
      let t = told_by sentence_of (marks c.split_at.result.0.now) (Err w.in-Err-TooDeep.field-0)
      w.in-Err-TooDeep.ensures.exact in
      let front = rw c.split_at.ensures.front at
      (subst (λ (r : Refusal). Told sentence_of (marks c.split_at.result.0.now) (Err r)) e t) in
      subst (Refuses (marks c.args.tokens.now) c.args.end) (sym w.result-is)
      (deep_past c.args.tokens.now c.args.past c.args.end front)
]
