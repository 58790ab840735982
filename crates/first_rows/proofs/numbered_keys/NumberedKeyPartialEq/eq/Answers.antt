use Rattle.std.proofs.Common.{◌≡◌, length, get_or, None, false, true, sym, arith, below_more}
use Rattle.first_rows.specs.NumberedKeys.{rest_of}
use Rattle.first_rows.specs.Parts.{same_part}
use Rattle.first_rows.proofs.KeyCells.{same_none}
use Rattle.first_rows.proofs.Coded.{coded_all, coded_apart, coded_other, coded_short, rest_long}
use Rattle.first_rows.proofs.numbered_keys.NumberedKeyPartialEq.eq.Goals.{then-self-other-via-then-self-other, then-self-other-via-else-self-other+then-self-other-2}
use Rattle.first_rows.proofs.numbered_keys.NumberedKeyPartialEq.eq.Goals as goal

pub returns-then-self-other : goal.returns-then-self-other
returns-then-self-other c =
    let a = c.args.self.now in
    let b = c.args.other.now in
    elim c.then-self-other.branch [
      | then-self-other-via-then-self-other w ↦ sym (coded_apart a b w.if-self-other.true)
      | then-self-other-via-else-self-other+then-self-other-2 w ↦ sym (coded_short a b w.if-self-other-2.true)
    ]

pub returns-then-not-are_same_parts : goal.returns-then-not-are_same_parts
returns-then-not-are_same_parts c =
    let a = rest_of c.args.self.now in
    let b = rest_of c.args.other.now in
    let differs : same_part (get_or a c.loop-place.place None) (get_or b c.loop-place.place None) ≡ false = cc (c.are_same_parts.ensures) in
    sym (coded_other c.args.self.now c.args.other.now (same_none a b c.loop-place.place differs))

pub loop-place-preserved : goal.loop-place-preserved
loop-place-preserved c =
    let here : same_part (get_or (rest_of c.args.self.now) c.loop-place.place None) (get_or (rest_of c.args.other.now) c.loop-place.place None) ≡ true = cc (c.are_same_parts.ensures) in
    below_more _ _ c.loop-place.invariant here

pub returns : goal.returns
returns c =
    let a = c.args.self.now in
    let b = c.args.other.now in
    let long : length (rest_of a) ≡ length (rest_of b) = omega (arith, rest_long a, rest_long b, c.if-self-other-2.false) in
    sym (coded_all a b c.if-self-other.false long (λ k below. c.loop-place.invariant k (omega (arith, rest_long a))))
