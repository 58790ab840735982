use Rattle.std.proofs.Common.{◌≡◌, ◌+◌, ◌∷◌, [], ◌∙◌, get_or, refl, rules, arith}
use Rattle.std.proofs.lemmas.Result.{err_from_is_err_and}
use Rattle.std.proofs.lemmas.List.{get_or_default}
use Rattle.row_text.proofs.Parts.{none_sent}
use Rattle.row_text.proofs.Escapes.{none_plain, one_more_plain, escape_sent, escape_not_sent, rest_sent}
use Rattle.row_text.proofs.text.send_spelled.Goals as goal
use Rattle.row_text.proofs.text.send_spelled.Goals.{in-Some+in_ok-send_parts, in_default}

pub loop-at-init : goal.loop-at-init
loop-at-init g c = record { sent = none_sent _ _; plain = none_plain g.S.Spelling.spelled c.args.text.now 0; within = search rules; count = refl }

pub loop-at-preserved : goal.loop-at-preserved
loop-at-preserved g c =
    let f = g.S.Spelling.spelled in
    let text = c.as_bytes-bytes.result.now in
    let at = c.loop-at.at in
    let was = c.loop-at.invariant in
    let byte = get_or text at 0 in
    let is = get_or_default text at 0 byte c.loop-at-test.true in
    elim c.match-escape.branch [
      | in-Some+in_ok-send_parts w ↦ record {
        sent = rw (w.writer-is, w.outbox-is, w.from-is)
            (escape_sent f text c.loop-at.from at was.within was.plain byte c.loop-at-test.true is _ _ _ _ _ _ _ w.in-Some.ensures was.sent w.in_ok-send_parts.ensures.bytes);
        plain = rw w.from-is (none_plain f text (at + 1));
        within = rw w.from-is (omega arith);
        count = rw w.writer-is (w.in_ok-send_parts.ensures.counted ∙ was.count);
      }
      | in_default w ↦
          let same : f byte ≡ byte ∷ [] = w.in_default.ensures in
          record {
            sent = rw (w.writer-is, w.outbox-is, w.from-is) was.sent;
            plain = rw w.from-is (one_more_plain f text c.loop-at.from at was.within was.plain byte c.loop-at-test.true is same);
            within = rw w.from-is (omega (arith, was.within));
            count = rw w.writer-is was.count;
          }
    ]

pub returns-in_err-send_parts-clause-bytes : goal.returns-in_err-send_parts-clause-bytes
returns-in_err-send_parts-clause-bytes g c =
    let p = err_from_is_err_and c.from_residual.result c.from_residual.ensures.1 in
    let text = c.as_bytes-bytes.result.now in
    let at = c.loop-at.at in
    let was = c.loop-at.invariant in
    let byte = get_or text at 0 in
    rw (p.1, ← c.as_bytes-bytes.ensures.value)
    (escape_not_sent g.S.Spelling.spelled text c.loop-at.from at was.within was.plain byte c.loop-at-test.true (get_or_default text at 0 byte c.loop-at-test.true)
    _ _ _ _ _ _ _ c.in-Some.ensures was.sent c.in_err-send_parts.ensures.bytes)

pub returns-clause-bytes : goal.returns-clause-bytes
returns-clause-bytes g c =
    let was = c.loop-at.invariant in
    rw (← c.as_bytes-bytes.ensures.value)
    (rest_sent g.S.Spelling.spelled c.as_bytes-bytes.result.now c.loop-at.from c.loop-at.at was.within was.plain _ _ _ _ _ _ _
    (omega (arith, c.loop-at-test.false, c.loop-at.auto.at-end)) was.sent c.send_part.ensures.bytes)
