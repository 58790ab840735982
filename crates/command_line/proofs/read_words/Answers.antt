use Rattle.std.proofs.Common.{◌∙◌, ap₂, sym, refl, map}
use Rattle.std.specs.Prelude.{string_bytes}
use Rattle.std.proofs.lemmas.Result.{err_from_is_err_and}
use Rattle.clap.specs.Words.{fault_of, found_of, rows_of}
use Rattle.command_line.specs.Line.{parsers_of}
use Rattle.command_line.proofs.Asking.{asked, fails_by, free_of, is_misuse, is_none, named_by, only_misuse}
use Rattle.command_line.proofs.read_words.Goals as goal

pub returns-in_err-matches-clause-faults : goal.returns-in_err-matches-clause-faults
returns-in_err-matches-clause-faults c =
    let is = c.in_ok-program.ensures.shape in
    let p = err_from_is_err_and c.from_residual-in_err-matches.result c.from_residual-in_err-matches.ensures.1 in
    fails_by _ _ _ _ _ _ is p.1 p.2 (c.in_err-matches.ensures.kinds (free_of _ _ is))

pub returns-then-is_misused-clause-faults : goal.returns-then-is_misused-clause-faults
returns-then-is_misused-clause-faults c =
    let is = c.in_ok-program.ensures.shape in
    let parsers = parsers_of c.args.names in
    let words = map string_bytes c.args.words.now in
    let name = c.in-Some.name.now in
    let rows = rows_of (found_of c.in-Some.options.now) in
    let none = sym (ap₂ fault_of is refl) ∙ c.in_ok-matches.ensures.kinds (free_of _ _ is) in
    let named = named_by parsers words _ c.in_ok-matches.matches name rows is c.in_ok-matches.ensures.matches (sym c.in-Some.ensures.name) (sym c.in-Some.ensures.rows) in
    is_misuse parsers words name rows c.in_ok-misuse.field-0 (only_misuse parsers words name rows none named) (sym c.is_misused.ensures ∙ c.if-is_misused.true) c.in_ok-misuse.ensures

pub returns-clause-faults : goal.returns-clause-faults
returns-clause-faults c =
    let is = c.in_ok-program.ensures.shape in
    let parsers = parsers_of c.args.names in
    let words = map string_bytes c.args.words.now in
    let name = c.in-Some.name.now in
    let rows = rows_of (found_of c.in-Some.options.now) in
    let none = sym (ap₂ fault_of is refl) ∙ c.in_ok-matches.ensures.kinds (free_of _ _ is) in
    let named = named_by parsers words _ c.in_ok-matches.matches name rows is c.in_ok-matches.ensures.matches (sym c.in-Some.ensures.name) (sym c.in-Some.ensures.rows) in
    is_none parsers words name rows (only_misuse parsers words name rows none named) (sym c.is_misused.ensures ∙ c.if-is_misused.false)

pub returns-clause-asked : goal.returns-clause-asked
returns-clause-asked c =
    let is = c.in_ok-program.ensures.shape in
    asked _ _ _ c.in_ok-matches.matches _ _ _ is c.in_ok-matches.ensures.matches (sym c.in-Some.ensures.name) (sym c.in-Some.ensures.rows) c.request_of.ensures
