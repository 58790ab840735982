use Rattle.std.proofs.Common.{below_more, arith, sym, ap, ◌∙◌}
use Rattle.std.specs.Prelude.{unwrap_or}
use Rattle.flight_client.proofs.Statuses.{none_has, other_code, other_text}
use Rattle.flight_client.proofs.status.fault_of_status.Goals as goal
use Rattle.flight_client.proofs.status.fault_of_status.Goals.{else-number-code-via-then-number-code+else-eq, else-number-code-via-else-number-code}

pub loop-number-preserved : goal.loop-number-preserved
loop-number-preserved c =
    below_more _ _ c.loop-number.invariant
    (λ some. elim c.else-number-code.branch [
      | else-number-code-via-then-number-code+else-eq w ↦ other_text _ _ c.args.code c.args.text.now w.as_str.result.now c.fault_numbered-fault.ensures (w.as_str.ensures.text ∙ w.text.ensures) (sym w.if-eq.ensures)
      | else-number-code-via-else-number-code w ↦ other_code _ _ c.number.result c.args.code c.args.text.now c.code.result c.fault_numbered-fault.ensures c.code.ensures c.number.ensures w.if-number-code.false
    ])

pub returns : goal.returns
returns c fault has =
    none_has c.args.code c.args.text.now c.unwrap_or-position.result (λ p fits is. c.unwrap_or-position.ensures ∙ ap (λ o. unwrap_or o 0) (c.position_in.ensures p fits is))
    (λ k low some. c.loop-number.invariant k (omega (arith, c.loop-number-test.false)) some) fault has
