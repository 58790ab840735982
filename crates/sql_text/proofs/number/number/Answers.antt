use Rattle.std.proofs.Common.{◌≡◌, true, false}
use Rattle.std.specs.Char.{is_ascii_digit}
use Rattle.std.specs.List.{list_all}
use Rattle.sql_text.proofs.Numbers.{number_wrong, number_refused, number_small, number_large}
use Rattle.sql_text.proofs.number.number.Goals as goal

pub returns-then-not-are_digits : goal.returns-then-not-are_digits
returns-then-not-are_digits c =
    let wrong : list_all is_ascii_digit c.args.text.now ≡ false = cc in
    number_wrong c.args.text.now wrong

pub returns-in_default : goal.returns-in_default
returns-in_default c =
    let digits : list_all is_ascii_digit c.args.text.now ≡ true = cc in
    number_refused c.args.text.now c.parse.result c.in_default.field-0 c.parse.ensures.value.0 digits c.in_default.is

pub returns-then-value-lt-LIMIT : goal.returns-then-value-lt-LIMIT
returns-then-value-lt-LIMIT c =
    let digits : list_all is_ascii_digit c.args.text.now ≡ true = cc in
    number_small c.args.text.now c.parse.result c.in-Ok.value c.parse.ensures.value.0 digits c.in-Ok.is c.if-value-lt-LIMIT.true

pub returns-else-value-lt-LIMIT : goal.returns-else-value-lt-LIMIT
returns-else-value-lt-LIMIT c =
    let digits : list_all is_ascii_digit c.args.text.now ≡ true = cc in
    number_large c.args.text.now c.parse.result c.in-Ok.value c.parse.ensures.value.0 digits c.in-Ok.is c.if-value-lt-LIMIT.false
