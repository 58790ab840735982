use Rattle.std.proofs.Common.{◌≡◌, ◌≤◌, ◌-◌, ◌∙◌, ℕ, List, length, sym, ap, subst, arith, IsAscii, IsUtf8, IsCharBoundary}
use Rattle.std.proofs.lemmas.Str.{IsUtf8-from_ascii, IsUtf8-from_is_utf8}
use Rattle.arrays.specs.Number.{element_at}
use Rattle.arrays.proofs.TextCuts.{all_ascii, ascii_cut, lie_within, all_cut, cut_long}
use Rattle.arrays.proofs.text_checks.are_cut_from_text.Goals as goal

pub between-whole-requires-clause-ordered : goal.between-whole-requires-clause-ordered
between-whole-requires-clause-ordered c =
    (lie_within c.args.offsets.now c.args.len (c.offsets_rise.ensures c.if-not-offsets_rise.false) c.args.len (omega arith)).0

pub cut_between_characters-requires-clause-within : goal.cut_between_characters-requires-clause-within
cut_between_characters-requires-clause-within c place low =
    let offsets = c.args.offsets.now in
    let room : element_at 4 offsets c.args.len ≤ length c.args.bytes.now = omega arith in
    let long : length c.between-whole.result.now ≡ element_at 4 offsets c.args.len - element_at 4 offsets 0 =
    ap length c.between-whole.ensures ∙ cut_long c.args.bytes.now _ _ room in
    let here = lie_within offsets c.args.len (c.offsets_rise.ensures c.if-not-offsets_rise.false) place low in
    (here.0, omega (arith, here.0, here.1, long))

pub returns-then-is_ascii : goal.returns-then-is_ascii
returns-then-is_ascii c passed =
    let offsets = c.args.offsets.now in
    let rise = c.offsets_rise.ensures c.if-not-offsets_rise.false in
    let room : element_at 4 offsets c.args.len ≤ length c.args.bytes.now = omega arith in
    let whole = c.between-whole.result.now in
    let long : length whole ≡ element_at 4 offsets c.args.len - element_at 4 offsets 0 = ap length c.between-whole.ensures ∙ cut_long c.args.bytes.now _ _ room in
    let ascii : IsAscii whole = all_ascii whole (c.is_ascii.ensures passed) in
    all_cut offsets c.args.bytes.now c.args.len room (omega arith) rise
    (subst IsUtf8 c.between-whole.ensures (IsUtf8-from_ascii whole ascii))
    (λ k within. let here = lie_within offsets c.args.len rise k within in
    subst (λ (xs : List ℕ). IsCharBoundary xs (element_at 4 offsets k - element_at 4 offsets 0)) c.between-whole.ensures
    (ascii_cut whole (element_at 4 offsets k - element_at 4 offsets 0) ascii (omega (arith, here.0, here.1, long))))

pub returns-then-is_utf8 : goal.returns-then-is_utf8
returns-then-is_utf8 c passed =
    let offsets = c.args.offsets.now in
    all_cut offsets c.args.bytes.now c.args.len (omega arith) (omega arith) (c.offsets_rise.ensures c.if-not-offsets_rise.false)
    (subst IsUtf8 c.between-whole.ensures (IsUtf8-from_is_utf8 _ (sym c.is_utf8.ensures ∙ c.if-is_utf8.true)))
    (λ k within. subst (λ (xs : List ℕ). IsCharBoundary xs (element_at 4 offsets k - element_at 4 offsets 0)) c.between-whole.ensures (c.cut_between_characters.ensures passed k within))
