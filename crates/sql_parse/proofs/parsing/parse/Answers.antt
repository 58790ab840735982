use Rattle.std.proofs.Common.{List, length, subst}
use Rattle.sql_text.specs.declared.token.Token.{Token}
use Rattle.sql_parse.specs.Parse.{Answered}
use Rattle.sql_query.specs.Sentence.{sentence_of}
use Rattle.sql_parse.specs.Tokens.{marks}
use Rattle.sql_parse.proofs.Answering.{parsed_by, fits}
use Rattle.sql_parse.proofs.Named.{answered_names}
use Rattle.sql_parse.proofs.parsing.parse.Goals as goal

pub returns-clause-parsed : goal.returns-clause-parsed
returns-clause-parsed c =
    parsed_by sentence_of c.args.sql.now c.in_ok-tokens.tokens.items c.parse_tokens.result c.in_ok-tokens.ensures.exact
    (subst (λ (xs : List Token). Answered sentence_of (marks xs) (length c.args.sql.now) c.parse_tokens.result)
    c.deref.ensures.value c.parse_tokens.ensures)

pub returns-clause-named : goal.returns-clause-named
returns-clause-named c =
    answered_names sentence_of c.in_ok-tokens.tokens.items (length c.args.sql.now) c.parse_tokens.result
    c.in_ok-tokens.ensures.names
    (subst (λ (xs : List Token). Answered sentence_of (marks xs) (length c.args.sql.now) c.parse_tokens.result)
    c.deref.ensures.value c.parse_tokens.ensures)

pub overflow_cast-sql : goal.overflow_cast-sql
overflow_cast-sql c = fits (length c.args.sql.now) c.in_ok-tokens.ensures.short
