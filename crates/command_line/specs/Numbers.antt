-- Options that are numbers.
use Rattle.std.specs.Prelude.{◌≡◌, ℕ, Option, Some, None}
use Rattle.std.specs.Str.Parse.{digits_value, without_leading_plus}
use Rattle.clap.specs.Words.{IsUnsignedIn, Rule, Text, new_rule}
use Rattle.clap.specs.declared.builder.action.ArgAction.TheVariants.{Set}
use Rattle.clap.specs.declared.builder.value_parser.ValueParser.TheVariants.{Unsigned}
use Rattle.command_line.specs.declared.number.Numbers.{Numbers}

-- the numbers that each option takes, and the one that stands where it is not given

abbrev pub parts_taken : Numbers
parts_taken = record { least = 1; most = 64; default = 1 }

abbrev pub workers_taken : Numbers
workers_taken = record { least = 1; most = 16; default = 1 }

abbrev pub seats_taken : Numbers
seats_taken = record { least = 1; most = 32; default = 4 }

abbrev pub accept_taken : Numbers
accept_taken = record { least = 0; most = 65535; default = 0 }

abbrev pub idle_taken : Numbers
idle_taken = record { least = 0; most = 65535; default = 300 }

abbrev pub keep_taken : Numbers
keep_taken = record { least = 0; most = 65536; default = 0 }

abbrev pub streams_taken : Numbers
streams_taken = record { least = 1; most = 16; default = 1 }

abbrev pub port_taken : Numbers
port_taken = record { least = 0; most = 65535; default = 0 }

abbrev pub version_taken : Numbers
version_taken = record { least = 0; most = 4294967295; default = 0 }

-- the option `--name`, whose value is a text
abbrev pub text_rule : Text → Rule
text_rule name = record (new_rule name) { long = Some name; action = Some Set; value_names = 1 }

-- the option `--name`, whose value is one of the numbers
abbrev pub number_rule : Text → Numbers → Rule
number_rule name numbers =
    record (text_rule name) { parser = Some (Unsigned numbers.least numbers.most) }

-- Which number a text says: its own, or the one that stands where there is no text. Nothing is said
-- of a text that is none of the numbers, which clap's definitions refuse.
abbrev pub SaysNumber : Numbers → Option Text → ℕ → Type 0
SaysNumber numbers None number = number ≡ numbers.default
SaysNumber numbers (Some text) number =
    IsUnsignedIn numbers.least numbers.most text →
    number ≡ digits_value 10 (without_leading_plus text)
