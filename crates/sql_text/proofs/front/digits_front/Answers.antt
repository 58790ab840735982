use Rattle.std.proofs.Common.{◌≡◌, take, Some, None}
use Rattle.std.specs.Char.{is_ascii_digit}
use Rattle.std.specs.List.{prefix_len}
use Rattle.sql_text.specs.Values.{number_of}
use Rattle.sql_text.proofs.Numbers.{front_refused, front_taken}
use Rattle.sql_text.proofs.front.digits_front.Goals as goal

pub returns-in_err-number : goal.returns-in_err-number
returns-in_err-number c =
    let was : c.number.result ≡ None = c.in_err-number.was in
    let none : number_of (take (prefix_len is_ascii_digit c.args.text.now) c.args.text.now) ≡ None = cc in
    let large = front_refused c.args.text.now c.requires none in
    rw large c.from_residual.ensures

pub returns : goal.returns
returns c =
    let was : c.number.result ≡ Some c.in_ok-number.field-0 = c.in_ok-number.was in
    let value : number_of (take (prefix_len is_ascii_digit c.args.text.now) c.args.text.now) ≡ Some c.in_ok-number.field-0 = cc in
    let small = front_taken c.args.text.now c.in_ok-number.field-0 c.requires value in
    let same : c.digits_len-len.result ≡ prefix_len is_ascii_digit c.args.text.now = cc in
    rw (small, ← same) c.token.ensures
