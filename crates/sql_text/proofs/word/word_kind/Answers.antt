use Rattle.std.proofs.Common.{◌≡◌, Option, refl, sym, ap, ◌∙◌, arith}
use Rattle.std.specs.Prelude.{unwrap_or}
use Rattle.sql_text.specs.declared.token.TokenKind.{TokenKind}
use Rattle.sql_text.specs.declared.token.TokenKind.TheVariants.{Name}
use Rattle.sql_text.specs.Words.{word_kind, meaning_in, meanings}
use Rattle.sql_text.proofs.Words.{of_length, of_no_length}
use Rattle.sql_text.proofs.word.word_kind.Goals as goal
use Rattle.sql_text.proofs.word.word_kind.Goals.{in-2, in-3, in-4, in-5, in-6, in-7, in-8, in-9, in_default}

pub returns : goal.returns
unfolding word_kind
returns c =
    let same : c.match-text.meaning ≡ meaning_in meanings c.args.text.now = elim c.match-text.branch [
      | in-2 w ↦ w.meaning-is ∙ w.find-meaning.ensures ∙ sym (of_length meanings c.args.text.now 2 w.in-2.is)
      | in-3 w ↦ w.meaning-is ∙ w.find-meaning-in-3.ensures ∙ sym (of_length meanings c.args.text.now 3 w.in-3.is)
      | in-4 w ↦ w.meaning-is ∙ w.find-meaning-in-4.ensures ∙ sym (of_length meanings c.args.text.now 4 w.in-4.is)
      | in-5 w ↦ w.meaning-is ∙ w.find-meaning-in-5.ensures ∙ sym (of_length meanings c.args.text.now 5 w.in-5.is)
      | in-6 w ↦ w.meaning-is ∙ w.find-meaning-in-6.ensures ∙ sym (of_length meanings c.args.text.now 6 w.in-6.is)
      | in-7 w ↦ w.meaning-is ∙ w.find-meaning-in-7.ensures ∙ sym (of_length meanings c.args.text.now 7 w.in-7.is)
      | in-8 w ↦ w.meaning-is ∙ w.find-meaning-in-8.ensures ∙ sym (of_length meanings c.args.text.now 8 w.in-8.is)
      | in-9 w ↦ w.meaning-is ∙ w.find-meaning-in-9.ensures ∙ sym (of_length meanings c.args.text.now 9 w.in-9.is)
      | in_default w ↦ w.meaning-is ∙ sym (of_no_length meanings c.args.text.now refl (λ k l h e. omega arith))
    ] in
    c.unwrap_or.ensures ∙ ap (λ (meaning : Option TokenKind). unwrap_or meaning Name) same
