use Rattle.std.proofs.Common.{◌≡◌, ◌≤◌, length, get_or, ◌-◌, arith}
use Rattle.std.proofs.lemmas.Str.{IsCharBoundary-before_ascii, IsCharBoundary-after_ascii}
use Rattle.sql_text.proofs.value.inside.Goals as goal

pub range-requires-clause-start_boundary : goal.range-requires-clause-start_boundary
range-requires-clause-start_boundary c = λ some.
    let text = c.args.text.now in
    let same : get_or text 0 0 ≡ c.args.quote = cc in
    let long : 2 ≤ length text = rw (c.as_bytes-bytes.ensures.value) at c.if-bytes-ge2.true in
    IsCharBoundary-after_ascii text 0 c.utf8.text (omega arith) (omega (arith, same, c.requires))

pub range-requires-clause-end_boundary : goal.range-requires-clause-end_boundary
range-requires-clause-end_boundary c =
    let text = c.args.text.now in
    let same : get_or text (length text - 1) 0 ≡ c.args.quote = rw (c.as_bytes-bytes.ensures.value) at c.if-bytes-quote-2.true in
    let long : 2 ≤ length text = rw (c.as_bytes-bytes.ensures.value) at c.if-bytes-ge2.true in
    IsCharBoundary-before_ascii text (length text - 1) (omega arith) (omega (arith, same, c.requires))
