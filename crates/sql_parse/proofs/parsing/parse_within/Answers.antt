use Rattle.std.proofs.Common.{◌≡◌, Ok, Err, subst, sym, ◌∙◌}
use Rattle.sql_parse.specs.declared.refusal.Refusal.{Refusal}
use Rattle.sql_parse.specs.declared.refusal.Refusal.TheVariants as refusal
use Rattle.sql_query.specs.Sentence.{sentence_of}
use Rattle.sql_parse.proofs.Told.{Told}
use Rattle.sql_parse.specs.Tokens.{marks}
use Rattle.sql_parse.proofs.Answering.{told_by, cut_at, too_deep, left_out, accepted, offends_within}
use Rattle.sql_parse.proofs.parsing.parse_within.Goals as goal

pub overflow_sub-tokens : goal.overflow_sub-tokens
overflow_sub-tokens c =
    let e : c.in-Err-Offends.field-0 ≡ refusal.Offends c.in-Err-Offends.left = c.in-Err-Offends.field-0-is in
    let t = told_by sentence_of (marks c.args.tokens.now) (Err c.in-Err-Offends.field-0)
    c.in-Err-Offends.ensures.exact in
    (cut_at c.args.tokens.now c.in-Err-Offends.left
    (subst (λ (r : Refusal). Told sentence_of (marks c.args.tokens.now) (Err r)) e t)).2

pub returns-then-is_left_out : goal.returns-then-is_left_out
returns-then-is_left_out c = λ ne.
    let t = told_by sentence_of (marks c.args.tokens.now) (Ok c.in-Ok.query) c.in-Ok.ensures.exact in
    left_out (marks c.args.tokens.now) c.args.end (sentence_of c.in-Ok.query) t.0 c.requires
    (sym c.is_left_out.ensures ∙ c.if-is_left_out.true)

pub returns-else-is_left_out : goal.returns-else-is_left_out
returns-else-is_left_out c =
    let t = told_by sentence_of (marks c.args.tokens.now) (Ok c.in-Ok.query) c.in-Ok.ensures.exact in
    accepted (marks c.args.tokens.now) (sentence_of c.in-Ok.query) t c.requires
    (sym c.is_left_out.ensures ∙ c.if-is_left_out.false)

pub returns-in-Err-Offends : goal.returns-in-Err-Offends
returns-in-Err-Offends c = λ ne.
    let e : c.in-Err-Offends.field-0 ≡ refusal.Offends c.in-Err-Offends.left = c.in-Err-Offends.field-0-is in
    let t = told_by sentence_of (marks c.args.tokens.now) (Err c.in-Err-Offends.field-0)
    c.in-Err-Offends.ensures.exact in
    offends_within c.args.tokens.now c.in-Err-Offends.left c.args.end c.fault_or.result c.requires
    (subst (λ (r : Refusal). Told sentence_of (marks c.args.tokens.now) (Err r)) e t)
    (rw (← c.split_at.ensures.back) c.fault_or.ensures)

pub returns-in-Err-TooDeep : goal.returns-in-Err-TooDeep
returns-in-Err-TooDeep c =
    let e : c.in-Err-TooDeep.field-0 ≡ refusal.TooDeep = c.in-Err-TooDeep.field-0-is in
    let t = told_by sentence_of (marks c.args.tokens.now) (Err c.in-Err-TooDeep.field-0)
    c.in-Err-TooDeep.ensures.exact in
    λ ne. too_deep (marks c.args.tokens.now) c.args.end
    (subst (λ (r : Refusal). Told sentence_of (marks c.args.tokens.now) (Err r)) e t)
