use Rattle.sql_text.proofs.Kept.{kept, placed}
use Rattle.sql_text.proofs.Names.{says_names}
use Rattle.sql_text.proofs.scan.tokens.Goals as goal

pub returns-clause-pieces : goal.returns-clause-pieces
returns-clause-pieces c = kept c.read_tokens.result c.args.sql.now c.read_tokens.ensures.exact

pub returns-clause-places : goal.returns-clause-places
returns-clause-places c =
    placed c.read_tokens.result c.args.sql.now (kept c.read_tokens.result c.args.sql.now c.read_tokens.ensures.exact)

pub returns-clause-names : goal.returns-clause-names
returns-clause-names c = says_names c.read_tokens.result c.args.sql.now c.utf8.sql
    (kept c.read_tokens.result c.args.sql.now c.read_tokens.ensures.exact)
