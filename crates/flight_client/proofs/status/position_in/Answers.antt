use Rattle.std.proofs.Common.{◌≡◌, List, ℕ, ◌++◌, drop, codes, sym, ap, ◌∙◌, arith}
use Rattle.std.specs.Fmt.{decimal}
use Rattle.std.specs.Result.{result_ok}
use Rattle.std.proofs.lemmas.Fmt.{parse-decimal}
use Rattle.flight_client.proofs.Statuses.{sql_text}
use Rattle.flight_client.proofs.status.position_in.Goals as goal

pub returns-in_err-digits : goal.returns-in_err-digits
returns-in_err-digits c position fits is = absurd (c.in_err-digits.ensures.cases (decimal position) (sym is ∙ sql_text position))

pub returns : goal.returns
returns c position fits is =
    let strips = c.in_ok-digits.ensures.cases in
    let text : c.args.text.now ≡ codes "F13 BadSql at byte " ++ decimal position = sym is ∙ sql_text position in
    let digits : c.in_ok-digits.digits.now ≡ decimal position = strips.2 ∙ ap (λ (n : ℕ). drop n c.args.text.now) strips.1.0 ∙ ap (λ (t : List ℕ). drop 19 t) text in
    c.ok.ensures.value ∙ ap result_ok (parse-decimal 32 position c.in_ok-digits.digits.now c.parse.result fits (omega arith) digits c.parse.ensures.value.0)
