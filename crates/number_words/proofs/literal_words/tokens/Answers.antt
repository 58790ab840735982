use Rattle.std.proofs.Common.{map, sym, subst}
use Rattle.std.specs.Prelude.{All}
use Rattle.sql_text.specs.Calls.{SaysText, lexeme_of}
use Rattle.number_words.proofs.LiteralNames.{names_kept}
use Rattle.number_words.proofs.literal_words.tokens.Goals as goal

pub returns-clause-names : goal.returns-clause-names
returns-clause-names c =
    let same = c.deref.ensures.value in
    subst (All SaysText) (sym c.in_ok-tokens.ensures) (rw same (names_kept (map lexeme_of c.in_ok-found.found.items) c.in_ok-found.ensures.names))

pub returns-clause-short : goal.returns-clause-short
returns-clause-short c = c.in_ok-found.ensures.pieces.0
