use Rattle.std.proofs.Common.{◌∙◌, Bool, drop, neg_ℤ, None, sym, ap, arith, if◌then◌else◌}
use Rattle.std.specs.Prelude.{option_map}
use Rattle.std.proofs.lemmas.Str.Pattern.{strip_prefix_char}
use Rattle.sql_text.specs.Values.{number_of}
use Rattle.number_words.proofs.Signs.{no_minus}
use Rattle.number_words.proofs.whole_number.decimal_in.Goals as goal

pub returns-in-None : goal.returns-in-None
returns-in-None c =
    let text = c.args.text.now in
    let none = no_minus text (strip_prefix_char 45 text None c.in-None.ensures.cases (omega arith)) in
    c.digits_in-in-None.ensures.value ∙ ap (λ (b : Bool). if b then option_map neg_ℤ (number_of (drop 1 text)) else number_of text) (sym none)
