-- Commands, as arguments and subcommands are added to them.
use Rattle.std.proofs.Common.{◌≡◌, ◌∙◌, ap, ap₂, false, ◌||◌, Result, Ok, Err, IfOk, IsOkAnd}
use Rattle.clap.specs.Words.{App, Rule, AddsArg, AddsSubcommand, app_of, rule_of, with_rule, with_subcommand}
use Rattle.clap.specs.declared.builder.arg.Arg.{Arg}
use Rattle.clap.specs.declared.builder.command.Command.{Command}
use Rattle.clap.specs.declared.builder.command.Command.TheViews.{out-Command}

-- nothing in a command is global
abbrev pub IsLocal : Command → Type 0
IsLocal command = (out-Command command).has_globals ≡ false

-- arguments more

local_with : (old new : Command) (a : Arg) → IsLocal old → a.global ≡ false → AddsArg old a new → IsLocal new
local_with old new a local own adds = adds.globals ∙ ap₂ (λ x y. x || y) local own

pub local_with_one : {E : Type 0} (r : Result Command E) (old : Command) (a : Arg) → a.global ≡ false → IfOk r (AddsArg old a)
    → IfOk r (λ new. IsLocal old → IsLocal new)
local_with_one (Ok new) old a own adds = λ local. local_with old new a local own adds
local_with_one (Err e) old a own adds = tt

pub shape_with_one : {E : Type 0} (r : Result Command E) (old : Command) (a : Arg) → a.global ≡ false → IfOk r (AddsArg old a)
    → IfOk r (λ new. app_of new ≡ with_rule (app_of old) (rule_of a))
shape_with_one (Ok new) old a own adds = adds.shape own
shape_with_one (Err e) old a own adds = tt

pub local_with_two : {E : Type 0} (r : Result Command E) (first old : Command) (a b : Arg) → a.global ≡ false → b.global ≡ false → AddsArg first a old → IfOk r (AddsArg old b)
    → IfOk r (λ new. IsLocal first → IsLocal new)
local_with_two (Ok new) first old a b own other added adds = λ local. local_with old new b (local_with first old a local own added) other adds
local_with_two (Err e) first old a b own other added adds = tt

pub shape_with_two : {E : Type 0} (r : Result Command E) (first old : Command) (a b : Arg) → a.global ≡ false → b.global ≡ false → AddsArg first a old → IfOk r (AddsArg old b)
    → IfOk r (λ new. app_of new ≡ with_rule (with_rule (app_of first) (rule_of a)) (rule_of b))
shape_with_two (Ok new) first old a b own other added adds = adds.shape other ∙ ap (λ (x : App). with_rule x (rule_of b)) (added.shape own)
shape_with_two (Err e) first old a b own other added adds = tt

-- a command that is made of another one

pub stays_local : {E : Type 0} (r : Result Command E) (old : Command) → IsLocal old → IfOk r (λ new. IsLocal old → IsLocal new) → IfOk r IsLocal
stays_local (Ok new) old local step = step local
stays_local (Err e) old local step = tt

pub has_one_more : {E : Type 0} (r : Result Command E) (old : Command) (a : Arg) (app : App) (rule : Rule) → app_of old ≡ app → rule_of a ≡ rule
    → IfOk r (λ new. app_of new ≡ with_rule (app_of old) (rule_of a)) → IfOk r (λ new. app_of new ≡ with_rule app rule)
has_one_more (Ok new) old a app rule is x more = more ∙ ap₂ with_rule is x
has_one_more (Err e) old a app rule is x more = tt

pub has_two_more : {E : Type 0} (r : Result Command E) (old : Command) (a b : Arg) (app : App) (first second : Rule)
    → app_of old ≡ app → rule_of a ≡ first → rule_of b ≡ second
    → IfOk r (λ new. app_of new ≡ with_rule (with_rule (app_of old) (rule_of a)) (rule_of b))
    → IfOk r (λ new. app_of new ≡ with_rule (with_rule app first) second)
has_two_more (Ok new) old a b app first second is x y more = more ∙ ap₂ with_rule (ap₂ with_rule is x) y
has_two_more (Err e) old a b app first second is x y more = tt

-- a subcommand more, where it was made

local_above : (old sub new : Command) → IsLocal old → IsLocal sub → AddsSubcommand old sub new → IsLocal new
local_above old sub new local own adds = adds.globals ∙ ap₂ (λ x y. x || y) local own

shape_above : (old sub new : Command) (app below : App) → app_of old ≡ app → app_of sub ≡ below → IsLocal sub → AddsSubcommand old sub new
    → app_of new ≡ with_subcommand app below.top
shape_above old sub new app below is rules own adds = adds.shape own ∙ ap₂ with_subcommand is (ap (λ (x : App). x.top) rules)

pub local_with_below : {E : Type 0} (made : Result Command E) (old new : Command) → IsLocal old → IfOk made IsLocal
    → IsOkAnd made (λ sub. AddsSubcommand old sub new) → IsLocal new
local_with_below (Ok sub) old new local own adds = local_above old sub new local own adds
local_with_below (Err e) old new local own adds = absurd adds

pub shape_with_below : {E : Type 0} (made : Result Command E) (old new : Command) (app below : App) → app_of old ≡ app
    → IfOk made (λ sub. app_of sub ≡ below) → IfOk made IsLocal → IsOkAnd made (λ sub. AddsSubcommand old sub new)
    → app_of new ≡ with_subcommand app below.top
shape_with_below (Ok sub) old new app below is rules own adds = shape_above old sub new app below is rules own adds
shape_with_below (Err e) old new app below is rules own adds = absurd adds

pub last_local_with_below : {E F : Type 0} (r : Result Command F) (made : Result Command E) (old : Command) → IsLocal old → IfOk made IsLocal
    → IfOk r (λ new. IsOkAnd made (λ sub. AddsSubcommand old sub new)) → IfOk r IsLocal
last_local_with_below (Ok new) made old local own adds = local_with_below made old new local own adds
last_local_with_below (Err e) made old local own adds = tt

pub last_shape_with_below : {E F : Type 0} (r : Result Command F) (made : Result Command E) (old : Command) (app below : App) → app_of old ≡ app
    → IfOk made (λ sub. app_of sub ≡ below) → IfOk made IsLocal → IfOk r (λ new. IsOkAnd made (λ sub. AddsSubcommand old sub new))
    → IfOk r (λ new. app_of new ≡ with_subcommand app below.top)
last_shape_with_below (Ok new) made old app below is rules own adds = shape_with_below made old new app below is rules own adds
last_shape_with_below (Err e) made old app below is rules own adds = tt
