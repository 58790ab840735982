use Rattle.std.proofs.Common.{◌≡◌, map, length}
use Rattle.sql_text.specs.declared.token.TokenKind.TheVariants as kind
use Rattle.sql_text.specs.declared.symbol.Symbol.TheVariants as symbol
use Rattle.sql_text.specs.Calls.{lexeme_of}
use Rattle.fault_hints.specs.LeftOut.{first_left_out}
use Rattle.fault_hints.proofs.left_out.first_left_out.Given as goal

-- it is among those that are left
abbrev pub invariant-loop-rest : goal.invariant-loop-rest
invariant-loop-rest l =
    first_left_out (kind.Symbol symbol.Semicolon) (map lexeme_of l.tokens)
    ≡ first_left_out l.before (map lexeme_of l.rest)

abbrev pub decreases-loop-rest : goal.decreases-loop-rest
decreases-loop-rest l = length l.rest
