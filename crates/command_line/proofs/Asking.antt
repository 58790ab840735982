-- What words ask for.
use Rattle.std.proofs.Common.{◌≡◌, ◌∙◌, ap, ap₂, refl, sym, false, true, inl, inr, Bool, List, [], ◌∷◌, Option, Some, None, Box, Result, Err, subst, option_map, unwrap_or, Bor}
use Rattle.std.proofs.lemmas.Option.{none-some, same_Some}
use Rattle.clap.specs.Words.{App, FailsBy, HasKind, Kinds, HasMatchesOf, kind_of, Row, Text, app_of, fault_of, subcommand_of, subcommand_rows, is_simple, is_simple_and_free}
use Rattle.std.specs.Prelude.{◌&&◌, codes, if◌then◌else◌}
use Rattle.std.specs.Str.{bytes_eq}
use Rattle.clap.specs.declared.error.kind.ErrorKind.TheVariants.{ArgumentConflict}
use Rattle.clap.specs.Kinds.{or_else}
use Rattle.clap.specs.Matches.{subcommand_name_of}
use Rattle.clap.specs.declared.builder.command.Command.{Command}
use Rattle.clap.specs.declared.error.Error.{Error}
use Rattle.clap.specs.declared.parser.matches.ArgMatches.{ArgMatches}
use Rattle.clap.specs.declared.parser.matches.ArgMatches.TheViews.{out-ArgMatches, out-SubCommand}
use Rattle.clap.specs.declared.parser.matches.SubCommand.{SubCommand}
use Rattle.clap.proofs.OnLiterals.{clap_on_literals}
use Rattle.std.specs.Box.{box_value}
use Rattle.command_line.specs.Line.{Parsers, program}
use Rattle.command_line.specs.Request.{Asks, IsAskedBy, is_misused, line_fault, misuse_of}
use Rattle.command_line.specs.declared.request.Request.{Request}

-- what a getter of a text gives
pub text_is : (given : Option (Bor Text)) (default : Bor Text) (text : Option Text) → option_map (λ x. x.now) given ≡ text
    → (unwrap_or given default).now ≡ unwrap_or text default.now
text_is (Some x) default text is = rw (← is) refl
text_is None default text is = rw (← is) refl

-- clap's definitions speak of the program
is_free : (parsers : Parsers) → is_simple_and_free (program parsers) ≡ true
unfolding clap_on_literals
is_free parsers = refl

simple : (parsers : Parsers) → is_simple (program parsers) ≡ true
unfolding clap_on_literals
simple parsers = refl

module _ {Z : Type 0} where
  -- a subcommand by its name and its rows
  entered : (met : Option (Box SubCommand Z)) (name : Text) (rows : List Row)
      → option_map (λ b. (out-SubCommand (box_value b)).name.now) met ≡ Some name
      → option_map (λ (p : Text × List Row). p.1) (subcommand_rows met) ≡ Some rows
      → subcommand_rows met ≡ Some (name, rows)
  entered None name rows named has = absurd (none-some _ named)
  entered (Some met) name rows named has = ap Some (ap₂ (λ (x : Text) (y : List Row). (x, y)) (same_Some _ _ named) (same_Some _ _ has))

-- the program, as clap built it
pub free_of : (command : Command) (parsers : Parsers) → app_of command ≡ program parsers → is_simple_and_free (app_of command) ≡ true
free_of command parsers is = ap is_simple_and_free is ∙ is_free parsers

-- an error of the first kinds is one of those, if there are some
still_kind : (first next : Kinds) (e : Error) → HasKind first e → HasKind (or_else first next) e
still_kind [] next e (inl lacks) = inl lacks
still_kind [] next e (inr among) = absurd among
still_kind (k ∷ ks) next e has = has

-- an error of a parse is one of the faults of the words
pub fails_by : {A : Type 0} (r : Result A Error) (words : List Text) (command : Command) (parsers : Parsers) (e y : Error) → app_of command ≡ program parsers
    → r ≡ Err y → y ≡ e → HasKind (fault_of (app_of command) words) e → FailsBy (line_fault parsers words) r
fails_by r words command parsers e y is fails same kind =
    rw (fails, same) (still_kind (fault_of (program parsers) words) (misuse_of (subcommand_of (program parsers) words)) e (subst (λ (a : App). HasKind (fault_of a words) e) is kind))

-- the subcommand that was met is what the words name
pub named_by : (parsers : Parsers) (words : List Text) (command : Command) (matches : ArgMatches) (name : Text) (rows : List Row)
    → app_of command ≡ program parsers → HasMatchesOf (app_of command) words matches
    → subcommand_name_of matches ≡ Some name
    → option_map (λ (p : Text × List Row). p.1) (subcommand_rows (out-ArgMatches matches).subcommand) ≡ Some rows
    → subcommand_of (program parsers) words ≡ Some (name, rows)
named_by parsers words command matches name rows is has named given =
    ap (λ (a : App). subcommand_of a words) (sym is) ∙ sym ((has (ap is_simple is ∙ simple parsers)).1)
    ∙ entered (out-ArgMatches matches).subcommand name rows named given

-- the fault, where a test finds it
abbrev misuse_where : Bool → Kinds
misuse_where test = if test then ArgumentConflict ∷ [] else []

-- where clap finds no fault, the fault of a line is that of its options
pub only_misuse : (parsers : Parsers) (words : List Text) (name : Text) (rows : List Row) → fault_of (program parsers) words ≡ []
    → subcommand_of (program parsers) words ≡ Some (name, rows) → line_fault parsers words ≡ misuse_of (Some (name, rows))
only_misuse parsers words name rows none named =
    ap₂ (λ (first : Kinds) (entered : Option (Text × List Row)). or_else first (misuse_of entered)) none named

pub is_misuse : (parsers : Parsers) (words : List Text) (name : Text) (rows : List Row) (e : Error) → line_fault parsers words ≡ misuse_of (Some (name, rows))
    → (bytes_eq name (codes "put") && is_misused rows) ≡ true → kind_of e ≡ ArgumentConflict → HasKind (line_fault parsers words) e
is_misuse parsers words name rows e whole test kind =
    let one : line_fault parsers words ≡ ArgumentConflict ∷ [] = whole ∙ ap misuse_where test in
    rw one (inr (inl kind))

pub is_none : (parsers : Parsers) (words : List Text) (name : Text) (rows : List Row) → line_fault parsers words ≡ misuse_of (Some (name, rows))
    → (bytes_eq name (codes "put") && is_misused rows) ≡ false → line_fault parsers words ≡ []
is_none parsers words name rows whole test = whole ∙ ap misuse_where test

-- what those words ask for
pub asked : (parsers : Parsers) (words : List Text) (command : Command) (matches : ArgMatches) (name : Text) (rows : List Row) (request : Request)
    → app_of command ≡ program parsers → HasMatchesOf (app_of command) words matches
    → subcommand_name_of matches ≡ Some name
    → option_map (λ (p : Text × List Row). p.1) (subcommand_rows (out-ArgMatches matches).subcommand) ≡ Some rows
    → Asks (name, rows) request → IsAskedBy parsers words request
asked parsers words command matches name rows request is has named given asks =
    let found = named_by parsers words command matches name rows is has named given in
    rw found asks
