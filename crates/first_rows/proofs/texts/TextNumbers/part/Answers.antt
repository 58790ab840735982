use Rattle.std.proofs.Common.{◌≡◌, ℕ, List, Option, Some, get_or, subst, ap, ◌∙◌}
use Rattle.std.proofs.lemmas.Result.{IfOk-weaker}
use Rattle.scan_base.specs.declared.value.Value.TheVariants.{Null, Text}
use Rattle.first_rows.specs.Numbers.{IsWith, long_text}
use Rattle.first_rows.specs.RowKeys.{key_of}
use Rattle.first_rows.proofs.texts.TextNumbers.part.Goals as goal

pub returns-clause-is : goal.returns-clause-is
returns-clause-is c =
    let text = c.in-Some.text.now in
    let told = c.in_ok-number in
    let long : Some text ≡ long_text (get_or (key_of c.args.first.now) c.args.part Null) = c.in-Some.ensures ∙ ap long_text c.cell.ensures in
    IfOk-weaker c.with.result _ _ (λ after pair. subst (λ (of : Option (List ℕ)). IsWith c.with.new.self c.args.before of after) long
    (told.number, c.with.ensures.stay.texts (Text text) told.number told.ensures.is, pair)) c.with.ensures.is
