use Rattle.std.proofs.Common.{◌≡◌, ◌+◌, ◌-◌, ◌∙◌, ℕ, ap, arith}
use Rattle.std.specs.Prelude.{slice_range}
use Rattle.scan_base.specs.declared.value.Value.TheVariants.{Text}
use Rattle.group_slots.proofs.ShortTexts.{text_tagged}
use Rattle.group_slots.proofs.tags.text_tag.Goals as goal

pub returns : goal.returns
returns c = λ some.
    let bytes = c.args.bytes.now in
    let same : c.args.begin + (c.args.end - c.args.begin) ≡ c.args.end = omega arith in
    text_tagged c.args.begin (c.args.end - c.args.begin) bytes c.short_text.result (λ k. omega (arith, c.type_inv.bytes k)) (omega arith) c.short_text.ensures
    ∙ ap (λ (n : ℕ). Text (slice_range bytes c.args.begin n)) same
